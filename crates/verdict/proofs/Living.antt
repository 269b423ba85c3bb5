-- The result of every part that a course finished accepts a word.
use Rattle.std.proofs.Common.{◌≡◌, ℕ, true, List, [], ◌∷◌, ◌++◌, is_some, Some, None, Option, sym, refl, subst, subst₂, ⊎_elim, MatchOption}
use Rattle.std.proofs.lemmas.Bool.{both_ways}
use Rattle.alphabet.specs.Labels.{Labels, Set, Lawful, Empty, Least}
use Rattle.automaton.specs.Automaton.{Automaton, Word, Accepts}
use Rattle.automaton.specs.Nfa.{Nfa, Trace, stop, move, Meets as LabelsMeet, Reachable, begin, go, product, all_words}
use Rattle.automaton.proofs.Realizing.{realizes_accepts, accepting_below}
use Rattle.build.specs.declared.Rows.{Rows}
use Rattle.build.specs.Pairs.{products}
use Rattle.verdict.specs.Course.{Done, Finished, result_of, Due, Operand, Makes, Alive, Ending, final, full, empty, Meets, all_met, product_passes, product_dead, product_met, concat_passes, concat_built, Builds, all_pass, all_built, Outcome, finished_in, Course, ends, finishes, stops, empties}
use Rattle.verdict.specs.Problem.{Problem}
use Rattle.verdict.proofs.Exactness.{made_all}
use Rattle.verdict.proofs.Finding.{result_new, result_old, finished_cases}

-- some word is accepted
abbrev pub Worded : {L : Type 0} → Labels L → Automaton L → Type 0
Worded a m = (w : Word) × Accepts a.admits m w

-- one arc more at the end of a trace
pub trace_push : {S E L : Type 0} {admits : L → Set} {n : Nfa S E L} {p q : S} {u : Word} {c : ℕ} (e : E) → Trace admits n p u q → n.Arrow e → n.from e ≡ q → admits (n.label e) c ≡ true → Trace admits n p (u ++ c ∷ []) (n.to e)
trace_push e stop arrow from yes' = move e arrow from yes' stop
trace_push e (move b arrow' from' yes'' h) arrow from yes' = move b arrow' from' yes'' (trace_push e h arrow from yes')

module _ {L : Type 0} {a : Labels L} (laws : Lawful a) where
  -- labels that meet admit a letter in common
  pub meets_letter : {l k : L} → LabelsMeet a l k → (c : ℕ) × (a.admits (a.meet l k) c ≡ true)
  meets_letter {l} {k} meets = by (a.first (a.meet l k)) meets (laws.first_least (a.meet l k))
    where
      by : (o : Option ℕ) → is_some o ≡ true → MatchOption o (Empty (a.admits (a.meet l k))) (Least (a.admits (a.meet l k))) → (c : ℕ) × (a.admits (a.meet l k) c ≡ true)
      by None some least = absurd (both_ways _ refl some)
      by (Some c) some least = (c, least.inside)

  -- a trace leads to every reachable pair
  pub reached : {S E T F : Type 0} {m : Nfa S E L} {k : Nfa T F L} {p : S} {q : T} → Reachable a m k p q → (x : S × T) × (w : Word) × (product a m k).Starts x × Trace a.admits (product a m k) x w (p, q)
  reached {p} {q} (begin starts starts') = ((p, q), [], (starts, starts'), stop)
  reached {m} {k} {p} {q} (go e f there arrow arrow' from from' meets to to') =
      let r = reached there in
      let c = meets_letter meets in
      let back = subst₂ (Reachable a m k) (sym from) (sym from') there in
      (r.0, r.1 ++ c.0 ∷ [], r.2, subst (λ y. Trace a.admits (product a m k) r.0 (r.1 ++ c.0 ∷ []) y) (λ i. (to i, to' i)) (trace_push (e, f) r.3 (arrow, arrow', back, meets) (λ i. (from i, from' i)) c.1))

  -- a product with an accepting state accepts a word
  pub product_worded : {room used : Rows} (m k : Automaton L) {n : Automaton L} → Makes a (products a m k) room used n → Alive n → Worded a n
  product_worded m k {n} makes alive =
      let r = makes.realizes in
      let q = alive.0 in
      let low = accepting_below n q alive.1 in
      let t = reached (r.states.each q low) in
      (t.1, (realizes_accepts r t.1).1 (record { start = t.0; end = r.name q; starts = t.2; ends = (r.ends q low).0 alive.1; trace = t.3 }))

  pub all_worded : {room used : Rows} {m : Automaton L} → Makes a (all_words a) room used m → Worded a m
  all_worded makes = ([], (made_all laws makes []).1 tt)

  -- the final result accepts a word
  abbrev FinalWorded : Ending L → Type 0
  FinalWorded (final m used) = Worded a m
  FinalWorded (full t used) = Unit {0}
  FinalWorded (empty used) = Unit {0}

  meets_worded : {room : Rows} {os : List (Operand L)} {m : Automaton L} {used : Rows} {e : Ending L} → Meets a room os m used e → Worded a m → FinalWorded e
  meets_worded all_met x = x
  meets_worded (product_passes passes) x = tt
  meets_worded (product_dead makes dead) x = tt
  meets_worded {m} (product_met {k} makes alive rest) x = meets_worded rest (product_worded m k makes alive)
  meets_worded (concat_passes passes) x = tt
  meets_worded (concat_built makes rest) x = meets_worded rest x

  builds_worded : {room : Rows} {os : List (Operand L)} {used : Rows} {e : Ending L} → Builds a room os used e → FinalWorded e
  builds_worded (all_pass passes) = tt
  builds_worded (all_built makes rest) = meets_worded rest (all_worded makes)

  worded_push : {s : Problem L} {ds : List (Done L)} {p : ℕ} {m : Automaton L} → Due s ds p → Worded a m → ((q : ℕ) → Finished ds q → Worded a (result_of ds q)) → (q : ℕ) → Finished (ds ++ record { part = p; result = m } ∷ []) q → Worded a (result_of (ds ++ record { part = p; result = m } ∷ []) q)
  worded_push {ds} {p} {m} due mine old q done =
      ⊎_elim
      (λ h. subst (Worded a) (sym (result_old ds p m q h)) (old q h))
      (λ same. subst (λ q. Worded a (result_of (ds ++ record { part = p; result = m } ∷ []) q)) (sym same) (subst (Worded a) (sym (result_new ds p m due.unfinished)) mine))
      (finished_cases ds p m q done)

  course_worded : {room : Rows} {s : Problem L} {ds : List (Done L)} {used : Rows} {o : Outcome L} → Course a room s ds used o → ((q : ℕ) → Finished ds q → Worded a (result_of ds q)) → (q : ℕ) → Finished (finished_in o) q → Worded a (result_of (finished_in o) q)
  course_worded (ends all) old = old
  course_worded (finishes next builds rest) old = course_worded rest (worded_push next.due (builds_worded builds) old)
  course_worded (stops next builds) old = old
  course_worded (empties next builds) old = old

pub courses_worded : {L : Type 0} (a : Labels L) → Lawful a → (room : Rows) (s : Problem L) (o : Outcome L) → Course a room s [] s.held o → (p : ℕ) → Finished (finished_in o) p → Worded a (result_of (finished_in o) p)
courses_worded a laws room s o course = course_worded laws course (λ q done. absurd (both_ways _ refl done))
