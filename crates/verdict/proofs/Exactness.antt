-- The results of the parts that a course finished accept exactly the words that are allowed, and a course that ends
-- with no word left for a part shows that no words satisfy the problem.
use Rattle.std.proofs.Common.{◌≡◌, ℕ, ◌<◌, Bool, true, false, cond, eqb, ◌⊎◌, ◌↔◌, List, [], ◌∷◌, ◌++◌, map, filter, sym, refl, ap, ◌∙◌, subst, inl, inr, ⊎_elim}
use Rattle.std.specs.List.{ContainsAt as Has, AllByRecursion as All}
use Rattle.std.proofs.ByRecursion.{All-append}
use Rattle.std.proofs.lemmas.Bool.{both_ways, eqb-true, eq-eqb}
use Rattle.alphabet.specs.Labels.{Labels, Lawful}
use Rattle.automaton.specs.Automaton.{Automaton, Word, Accepts}
use Rattle.automaton.specs.Nfa.{all_words}
use Rattle.automaton.proofs.AllWords.{all_words_exact}
use Rattle.automaton.proofs.Concats.{concat_exact}
use Rattle.automaton.proofs.Products.{product_exact}
use Rattle.automaton.proofs.Realizing.{realizes_accepts, rows_exact}
use Rattle.build.specs.declared.Rows.{Rows}
use Rattle.build.specs.Concats.{InTurn, concats}
use Rattle.build.specs.Pairs.{products}
use Rattle.sheet.specs.declared.Join.{Join}
use Rattle.verdict.specs.Course.{Done, Finished, result_of, Due, Operand, pattern, join, pattern_operands, join_operands, operands, Makes, Dead, Ending, final, full, empty, Meets, all_met, product_passes, product_dead, product_met, concat_passes, concat_built, Builds, all_pass, all_built, Outcome, complete, no_room, no_word, finished_in, Course, ends, finishes, stops, empties}
use Rattle.verdict.specs.Meaning.{Allowed, Exact, CoursesExact, Unsatisfiable}
use Rattle.verdict.specs.Problem.{Problem, Pattern, Satisfies}
use Rattle.verdict.proofs.Finding.{has_none, has_first, has_rest, has_cases, result_new, result_old, finished_old, finished_cases}

-- all that is made of those of a list that pass a test
module _ {X Y : Type 0} (P : Y → Type 0) (f : X → Y) (test : X → Bool) where
  pub all_kept_has : (xs : List X) → All P (map f (filter test xs)) → (x : X) → Has xs x → test x ≡ true → P (f x)
  all_kept_has [] h x has = absurd (has_none x has)
  all_kept_has (z ∷ xs) h x has = by (test z) refl h (all_kept_has xs) (has_cases z xs x has)
    where
      by : (b : Bool) → test z ≡ b → All P (map f (cond b (z ∷ filter test xs) (filter test xs))) → (All P (map f (filter test xs)) → (x : X) → Has xs x → test x ≡ true → P (f x)) → (z ≡ x) ⊎ Has xs x → test x ≡ true → P (f x)
      by true e h rest (inl same) passes = subst (λ x. P (f x)) same h.0
      by true e h rest (inr old) passes = rest h.1 x old passes
      by false e h rest (inl same) passes = absurd (both_ways _ e (ap test same ∙ passes))
      by false e h rest (inr old) passes = rest h x old passes

  pub has_all_kept : (xs : List X) → ((x : X) → Has xs x → test x ≡ true → P (f x)) → All P (map f (filter test xs))
  has_all_kept [] h = tt
  has_all_kept (z ∷ xs) h = by (test z) refl (has_all_kept xs (λ x old. h x (has_rest z xs x old)))
    where
      by : (b : Bool) → test z ≡ b → All P (map f (filter test xs)) → All P (map f (cond b (z ∷ filter test xs) (filter test xs)))
      by true e rest = (h z (has_first z xs) e, rest)
      by false e rest = rest

pub all_split : {X : Type 0} (P : X → Type 0) (xs ys : List X) → All P (xs ++ ys) → All P xs × All P ys
all_split P [] ys h = (tt, h)
all_split P (x ∷ xs) ys h = let rest = all_split P xs ys h.1 in ((h.0, rest.0), rest.1)

-- the words that an operand leaves
abbrev pub Takes : {L : Type 0} → Labels L → Word → Operand L → Type 0
Takes a w (pattern k) = Accepts a.admits k w
Takes a w (join y z) = InTurn a.admits y z w

-- what an ending says of a word, of which P is asked
abbrev pub Means : {L : Type 0} → Labels L → Word → Type 0 → Ending L → Type 0
Means a w P (final m used) = Accepts a.admits m w ↔ P
Means a w P (full t used) = Unit {0}
Means a w P (empty used) = P → ⊥

pub means_same : {L : Type 0} (a : Labels L) (w : Word) {P Q : Type 0} → P ↔ Q → (e : Ending L) → Means a w P e → Means a w Q e
means_same a w same (final m used) h = (λ x. same.0 (h.0 x), λ y. h.1 (same.1 y))
means_same a w same (full t used) h = tt
means_same a w same (empty used) h = λ y. h (same.1 y)

pub dead_none : {L : Type 0} (a : Labels L) {m : Automaton L} {w : Word} → Dead m → Accepts a.admits m w → ⊥
dead_none a dead x = both_ways _ (dead x.end) x.ends

module _ {L : Type 0} {a : Labels L} (laws : Lawful a) {room : Rows} where
  pub made_product : {m k n : Automaton L} {used : Rows} → Makes a (products a m k) room used n → (w : Word) → Accepts a.admits n w ↔ (Accepts a.admits m w × Accepts a.admits k w)
  made_product {m} {k} h w =
      let real = realizes_accepts h.realizes w in
      let both = product_exact laws w in (
        λ x. let y = both.0 (real.0 x) in ((rows_exact a m w).0 y.0, (rows_exact a k w).0 y.1),
        λ x. real.1 (both.1 ((rows_exact a m w).1 x.0, (rows_exact a k w).1 x.1)),
      )

  pub made_concat : {y z n : Automaton L} {used : Rows} → Makes a (concats a y z) room used n → (w : Word) → Accepts a.admits n w ↔ InTurn a.admits y z w
  made_concat {y} {z} h w =
      let real = realizes_accepts h.realizes w in
      let turn = concat_exact w in (
        λ x. let s = turn.0 (real.0 x) in (s.0, s.1, s.2, (rows_exact a y s.0).0 s.3, (rows_exact a z s.1).0 s.4),
        λ x. real.1 (turn.1 (x.0, x.1, x.2, (rows_exact a y x.0).1 x.3, (rows_exact a z x.1).1 x.4)),
      )

  pub made_all : {m : Automaton L} {used : Rows} → Makes a (all_words a) room used m → (w : Word) → Accepts a.admits m w ↔ All (λ c. c < a.letters) w
  made_all h w =
      let real = realizes_accepts h.realizes w in
      let all = all_words_exact laws w in (λ x. all.0 (real.0 x), λ x. real.1 (all.1 x))

  -- the words of the running result that all operands leave
  pub meets_exact : {os : List (Operand L)} {m : Automaton L} {used : Rows} {e : Ending L} → Meets a room os m used e → (w : Word) → Means a w (Accepts a.admits m w × All (Takes a w) os) e
  meets_exact all_met w = (λ x. (x, tt), λ x. x.0)
  meets_exact (product_passes passes) w = tt
  meets_exact (product_dead makes dead) w = λ x. dead_none a dead ((made_product makes w).1 (x.0, x.1.0))
  meets_exact {e} (product_met makes alive rest) w =
      let made = made_product makes w in
      means_same a w ((λ x. let y = made.0 x.0 in (y.0, (y.1, x.1))), (λ x. (made.1 (x.0, x.1.0), x.1.1))) e (meets_exact rest w)
  meets_exact (concat_passes passes) w = tt
  meets_exact {e} (concat_built makes rest) w =
      let made = made_concat makes w in
      means_same a w ((λ x. (x.0, (made.0 x.1.0, x.1.1))), (λ x. (x.0, (made.1 x.1.0, x.1.1)))) e (meets_exact rest w)

  -- the words of letters that all operands leave
  pub builds_exact : {os : List (Operand L)} {used : Rows} {e : Ending L} → Builds a room os used e → (w : Word) → Means a w (All (λ c. c < a.letters) w × All (Takes a w) os) e
  builds_exact (all_pass passes) w = tt
  builds_exact {e} (all_built makes rest) w =
      let made = made_all makes w in
      means_same a w ((λ x. (made.0 x.0, x.1)), (λ x. (made.1 x.0, x.1))) e (meets_exact rest w)

-- the operands of a part leave the words that its patterns and joins allow
module _ {L : Type 0} (a : Labels L) (s : Problem L) (ds : List (Done L)) (p : ℕ) (w : Word) where
  pub operands_allow : All (λ c. c < a.letters) w × All (Takes a w) (operands s ds p) → Allowed a s ds p w
  operands_allow x =
      let parts = all_split (Takes a w) (pattern_operands s.patterns p) (join_operands ds s.joins p) x.1 in
      record {
        letters = x.0;
        patterns = λ h has is. all_kept_has (Takes a w) (λ (h : Pattern L). pattern h.automaton) (λ h. eqb h.part p) s.patterns parts.0 h has (eq-eqb h.part p is);
        joins = λ j has is. all_kept_has (Takes a w) (λ (j : Join). join (result_of ds j.left) (result_of ds j.right)) (λ j. eqb j.whole p) s.joins parts.1 j has (eq-eqb j.whole p is);
      }

  pub allowed_operands : Allowed a s ds p w → All (λ c. c < a.letters) w × All (Takes a w) (operands s ds p)
  allowed_operands x = (
    x.letters,
    All-append (Takes a w) (pattern_operands s.patterns p) (join_operands ds s.joins p)
        (has_all_kept (Takes a w) (λ (h : Pattern L). pattern h.automaton) (λ h. eqb h.part p) s.patterns (λ h has passes. x.patterns h has (eqb-true h.part p passes)))
        (has_all_kept (Takes a w) (λ (j : Join). join (result_of ds j.left) (result_of ds j.right)) (λ j. eqb j.whole p) s.joins (λ j has passes. x.joins j has (eqb-true j.whole p passes))),
  )

-- the right-hand parts of finished parts are finished
abbrev pub Grounded : {L : Type 0} → Problem L → List (Done L) → Type 0
Grounded s ds = (j : Join) → Has s.joins j → Finished ds j.whole → Finished ds j.left × Finished ds j.right

pub grounded_push : {L : Type 0} (s : Problem L) (ds : List (Done L)) (p : ℕ) (m : Automaton L) → Due s ds p → Grounded s ds → Grounded s (ds ++ record { part = p; result = m } ∷ [])
grounded_push s ds p m due ground j has done =
    let r : Finished ds j.left × Finished ds j.right = ⊎_elim (λ old. ground j has old) (λ new. due.right_hand j has new) (finished_cases ds p m j.whole done) in
    (finished_old ds p m j.left r.0, finished_old ds p m j.right r.1)

module _ {L : Type 0} (a : Labels L) (s : Problem L) (ds : List (Done L)) (p : ℕ) (m : Automaton L) where
  -- one part more allows the same words of a part whose right-hand parts were finished
  pub allowed_push : (q : ℕ) (w : Word) → ((j : Join) → Has s.joins j → j.whole ≡ q → Finished ds j.left × Finished ds j.right) → Allowed a s ds q w ↔ Allowed a s (ds ++ record { part = p; result = m } ∷ []) q w
  allowed_push q w ready = (
    λ x. record {
      letters = x.letters;
      patterns = x.patterns;
      joins = λ j has is.
          let r = ready j has is in
          let t = x.joins j has is in
          (t.0, t.1, t.2, subst (λ y. Accepts a.admits y t.0) (sym (result_old ds p m j.left r.0)) t.3, subst (λ y. Accepts a.admits y t.1) (sym (result_old ds p m j.right r.1)) t.4);
    },
    λ x. record {
      letters = x.letters;
      patterns = x.patterns;
      joins = λ j has is.
          let r = ready j has is in
          let t = x.joins j has is in
          (t.0, t.1, t.2, subst (λ y. Accepts a.admits y t.0) (result_old ds p m j.left r.0) t.3, subst (λ y. Accepts a.admits y t.1) (result_old ds p m j.right r.1) t.4);
    },
  )

  pub exact_push : Lawful a → {room used used' : Rows} → Due s ds p → Builds a room (operands s ds p) used (final m used') → Grounded s ds → Exact a s ds → Exact a s (ds ++ record { part = p; result = m } ∷ [])
  exact_push laws due builds ground exact q done w = ⊎_elim old new (finished_cases ds p m q done)
    where
      old : Finished ds q → Accepts a.admits (result_of (ds ++ record { part = p; result = m } ∷ []) q) w ↔ Allowed a s (ds ++ record { part = p; result = m } ∷ []) q w
      old h =
          let is = result_old ds p m q h in
          let push = allowed_push q w (λ j has whole. ground j has (subst (Finished ds) (sym whole) h)) in (
            λ x. push.0 ((exact q h w).0 (subst (λ y. Accepts a.admits y w) is x)),
            λ x. subst (λ y. Accepts a.admits y w) (sym is) ((exact q h w).1 (push.1 x)),
          )

      here : Accepts a.admits (result_of (ds ++ record { part = p; result = m } ∷ []) p) w ↔ Allowed a s (ds ++ record { part = p; result = m } ∷ []) p w
      here =
          let is = result_new ds p m due.unfinished in
          let push = allowed_push p w due.right_hand in
          let built = builds_exact laws builds w in (
            λ x. push.0 (operands_allow a s ds p w (built.0 (subst (λ y. Accepts a.admits y w) is x))),
            λ x. subst (λ y. Accepts a.admits y w) (sym is) (built.1 (allowed_operands a s ds p w (push.1 x))),
          )

      new : q ≡ p → Accepts a.admits (result_of (ds ++ record { part = p; result = m } ∷ []) q) w ↔ Allowed a s (ds ++ record { part = p; result = m } ∷ []) q w
      new same = subst (λ q. Accepts a.admits (result_of (ds ++ record { part = p; result = m } ∷ []) q) w ↔ Allowed a s (ds ++ record { part = p; result = m } ∷ []) q w) (sym same) here

module _ {L : Type 0} {a : Labels L} (laws : Lawful a) {room : Rows} {s : Problem L} where
  pub course_exact : {ds : List (Done L)} {used : Rows} {o : Outcome L} → Course a room s ds used o → Grounded s ds → Exact a s ds → Exact a s (finished_in o)
  course_exact (ends all) ground exact = exact
  course_exact {ds} (finishes {p} {m} next builds rest) ground exact = course_exact rest (grounded_push s ds p m next.due ground) (exact_push a s ds p m laws next.due builds ground exact)
  course_exact (stops next builds) ground exact = exact
  course_exact (empties next builds) ground exact = exact

pub courses_exact : {L : Type 0} (a : Labels L) → Lawful a → (room : Rows) (s : Problem L) → CoursesExact a room s
courses_exact a laws room s o course = course_exact laws course (λ j has done. absurd (both_ways _ refl done)) (λ p done. absurd (both_ways _ refl done))

-- the results of the finished parts accept the words
abbrev pub Kept : {L : Type 0} → Labels L → (ℕ → Word) → List (Done L) → Type 0
Kept a words ds = (p : ℕ) → Finished ds p → Accepts a.admits (result_of ds p) (words p)

-- some word is left for every part
abbrev pub WordLeft : {L : Type 0} → Outcome L → Type 0
WordLeft (complete ds used) = Unit {0}
WordLeft (no_room t p ds used) = Unit {0}
WordLeft (no_word p ds used) = ⊥

-- words that satisfy a problem are allowed
pub satisfies_allowed : {L : Type 0} {a : Labels L} {s : Problem L} {words : ℕ → Word} {ds : List (Done L)} {p : ℕ} → Satisfies a s words → Due s ds p → Kept a words ds → Allowed a s ds p (words p)
satisfies_allowed {a} {words} {p} sat due kept = record {
  letters = sat.letters p due.part;
  patterns = λ h has is. subst (λ q. Accepts a.admits h.automaton (words q)) is (sat.patterns h has);
  joins = λ j has is.
      let r = due.right_hand j has is in
      (words j.left, words j.right, ap words (sym is) ∙ sat.joins j has, kept j.left r.0, kept j.right r.1);
}

module _ {L : Type 0} {a : Labels L} (laws : Lawful a) {room : Rows} {s : Problem L} {words : ℕ → Word} (sat : Satisfies a s words) where
  pub kept_push : {ds : List (Done L)} {p : ℕ} {m : Automaton L} {used used' : Rows} → Due s ds p → Builds a room (operands s ds p) used (final m used') → Kept a words ds → Kept a words (ds ++ record { part = p; result = m } ∷ [])
  kept_push {ds} {p} {m} due builds kept q done = ⊎_elim old new (finished_cases ds p m q done)
    where
      old : Finished ds q → Accepts a.admits (result_of (ds ++ record { part = p; result = m } ∷ []) q) (words q)
      old h = subst (λ y. Accepts a.admits y (words q)) (sym (result_old ds p m q h)) (kept q h)

      here : Accepts a.admits (result_of (ds ++ record { part = p; result = m } ∷ []) p) (words p)
      here = subst (λ y. Accepts a.admits y (words p)) (sym (result_new ds p m due.unfinished)) ((builds_exact laws builds (words p)).1 (allowed_operands a s ds p (words p) (satisfies_allowed sat due kept)))

      new : q ≡ p → Accepts a.admits (result_of (ds ++ record { part = p; result = m } ∷ []) q) (words q)
      new same = subst (λ q. Accepts a.admits (result_of (ds ++ record { part = p; result = m } ∷ []) q) (words q)) (sym same) here

  pub course_kept : {ds : List (Done L)} {used : Rows} {o : Outcome L} → Course a room s ds used o → Kept a words ds → Kept a words (finished_in o)
  course_kept (ends all) kept = kept
  course_kept (finishes next builds rest) kept = course_kept rest (kept_push next.due builds kept)
  course_kept (stops next builds) kept = kept
  course_kept (empties next builds) kept = kept

  course_word : {ds : List (Done L)} {used : Rows} {o : Outcome L} → Course a room s ds used o → Kept a words ds → WordLeft o
  course_word (ends all) kept = tt
  course_word (finishes next builds rest) kept = course_word rest (kept_push next.due builds kept)
  course_word (stops next builds) kept = tt
  course_word {ds} (empties {p} next builds) kept = builds_exact laws builds (words p) (allowed_operands a s ds p (words p) (satisfies_allowed sat next.due kept))

  pub no_word_empty : {p : ℕ} {ds : List (Done L)} {used : Rows} → Course a room s [] s.held (no_word p ds used) → ⊥
  no_word_empty course = course_word course (λ p done. absurd (both_ways _ refl done))

pub no_word_none : {L : Type 0} (a : Labels L) → Lawful a → (room : Rows) (s : Problem L) {p : ℕ} {ds : List (Done L)} {used : Rows} → Course a room s [] s.held (no_word p ds used) → Unsatisfiable a s
no_word_none a laws room s course words sat = no_word_empty laws sat course

-- whoever satisfies the problem, the results of all parts that a course finished accept the words
pub satisfies_kept : {L : Type 0} (a : Labels L) → Lawful a → (room : Rows) (s : Problem L) {o : Outcome L} → Course a room s [] s.held o → {words : ℕ → Word} → Satisfies a s words → Kept a words (finished_in o)
satisfies_kept a laws room s course sat = course_kept laws sat course (λ p done. absurd (both_ways _ refl done))

-- a complete course finishes every part
pub complete_all : {L : Type 0} {a : Labels L} {room : Rows} {s : Problem L} {ds₀ ds : List (Done L)} {used₀ used : Rows} → Course a room s ds₀ used₀ (complete ds used) → (p : ℕ) → p < s.parts → Finished ds p
complete_all (ends all) = all
complete_all (finishes next builds rest) = complete_all rest
