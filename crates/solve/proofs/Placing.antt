-- Words for the parts, join by join: what holds while some parts have their words, and what a split of one more word adds.
use Rattle.std.proofs.Common.{◌≡◌, ℕ, ◌+◌, ◌-◌, ◌<◌, ◌≤◌, Bool, true, false, ◌⊎◌, List, length, get_or, take, drop, set, sym, refl, ap, ◌∙◌, subst, inl, inr, ⊎_elim, arith}
use Rattle.std.specs.List.{ContainsAt as Has}
use Rattle.std.proofs.lemmas.List.{length-set, get_or-set_same, get_or-set_other, take-take, drop-take, drop-drop, drop-set-lt}
use Rattle.std.proofs.lemmas.Bool.{cases_eq}
use Rattle.alphabet.specs.Labels.{Set}
use Rattle.automaton.specs.declared.Arc.{Arc}
use Rattle.automaton.specs.declared.State.{State}
use Rattle.automaton.specs.Automaton.{Automaton, Word, Accepts}
use Rattle.build.specs.declared.Rows.{Rows}
use Rattle.build.specs.declared.Place.{Place}
use Rattle.build.specs.Concats.{InTurn}
use Rattle.build.specs.Tables.{Stands, at}
use Rattle.sheet.specs.declared.Join.{Join}
use Rattle.sheet.specs.Joins.{AtOrBelow, Known, Marked, Settled, none}
use Rattle.sheet.proofs.Circles.{settled_all, mark_keeps, mark_cases}
use Rattle.verdict.specs.Verdicts.{SingleUse, Root}
use Rattle.words.specs.Words.{Renumbered}
use Rattle.words.proofs.Renumbering.{renumbered_none, renumbered_more, at_renumbered, in_use_renumbered, stands_renumbered}
use Rattle.solve.specs.declared.Row.{Row}
use Rattle.solve.specs.declared.Span.{Span}
use Rattle.solve.specs.Pieces.{left_piece, right_piece, SplitUp}
use Rattle.solve.specs.Report.{blank, row, word_at, automaton_of, Reworded, Standing, Worded, Within, Pieces, AllPieces, with_word}
use Rattle.solve.proofs.Usings.{UsedBy, not_root, parts_differ, no_other}

-- the pieces of a word, as parts of the table
pub left_word : (words : List ℕ) (first len i : ℕ) → i ≤ len → take i (word_at words (record { first = first; len = len })) ≡ word_at words (record { first = first; len = i })
left_word words first len i low = take-take i len (drop first words) low

pub right_word : (words : List ℕ) (first len i : ℕ) → i ≤ len → drop i (word_at words (record { first = first; len = len })) ≡ word_at words (record { first = first + i; len = len - i })
right_word words first len i low =
    let whole : i + (len - i) ≡ len = omega arith in
    ap (λ n. drop i (take n (drop first words))) (sym whole) ∙ drop-take i (len - i) (drop first words) ∙ ap (take (len - i)) (drop-drop i first words)

-- rows that are as they were keep the pieces of a join
pub pieces_kept : (before after : List Row) (j : Join) → row after j.whole ≡ row before j.whole → row after j.left ≡ row before j.left → row after j.right ≡ row before j.right → Pieces before j → Pieces after j
pieces_kept before after j whole left right h =
    let first = λ (r : Row). r.word.first in
    let len = λ (r : Row). r.word.len in
    record {
      left_first = ap first left ∙ h.left_first ∙ sym (ap first whole);
      right_after = omega (arith, ap first right, h.right_after, ap first left, ap len left);
      together = omega (arith, ap len whole, h.together, ap len left, ap len right);
    }

-- a row with another word, and one after another
pub reworded_set : (parts : ℕ) (xs : List Row) (i first len : ℕ) → i < parts → i < length xs → Reworded parts xs (set xs i (with_word (row xs i) first len))
reworded_set parts xs i first len low there =
    let x = with_word (row xs i) first len in
    record {
      long = length-set xs i x;
      automata = λ p.
          ⊎_elim
          (λ same. ap (λ q. (row (set xs i x) q).automaton) same ∙ ap (λ (r : Row). r.automaton) (get_or-set_same xs i x blank there) ∙ sym (ap (λ q. (row xs q).automaton) same))
          (λ other. ap (λ (r : Row). r.automaton) (get_or-set_other xs i p x blank other)) (cases_eq p i);
      rest = drop-set-lt parts xs i x low;
    }

pub reworded_more : (parts : ℕ) (xs ys zs : List Row) → Reworded parts xs ys → Reworded parts ys zs → Reworded parts xs zs
reworded_more parts xs ys zs h k = record { long = k.long ∙ h.long; automata = λ p. k.automata p ∙ h.automata p; rest = k.rest ∙ h.rest }

-- a part of a join is no root
used_not_root : (js : List Join) (j : Join) → Has js j → (p : ℕ) → UsedBy p j → Root js p → ⊥
used_not_root js j has p by = not_root js has.0 has.1 p (subst (UsedBy p) (sym (has.2 none)) by)

-- some parts are marked, and have their words
pub record Placing {L : Type 0} (admits : L → Set) (start : List State) (arcs : List (Arc L)) (js : List Join) (parts : ℕ) (given : List Row) (words : List ℕ) (marks : List Bool) (states : List State) (report : List Row) : Type 0 where
  pub long : length marks ≡ 64
  pub known : (p : ℕ) → Marked marks p → p < parts
  pub worded : (p : ℕ) → Marked marks p → Worded admits start arcs report words p × Within report words p
  pub pieces : (j : Join) → Has js j → Marked marks j.left ⊎ Marked marks j.right → Marked marks j.whole × Marked marks j.left × Marked marks j.right × Pieces report j
  pub roots : (p : ℕ) → p < parts → Root js p → Marked marks p
  pub kept : (p : ℕ) → p < parts → Root js p → row report p ≡ row given p
  pub reworded : Reworded parts given report
  pub renumbered : (n : ℕ) → ((p : ℕ) → p < parts → n ≤ (row given p).automaton.first.states) → Renumbered n start states

module _ {L : Type 0} (admits : L → Set) (start : List State) (arcs : List (Arc L)) (js : List Join) (parts : ℕ) (given : List Row) (words : List ℕ) where
  -- at the start the roots are marked
  pub placing_begin : (marks : List Bool) → length marks ≡ 64 → ((p : ℕ) → p < parts → Root js p → Marked marks p) → ((p : ℕ) → Marked marks p → (p < parts) × Root js p) →
      ((p : ℕ) → p < parts → Root js p → Worded admits start arcs given words p × Within given words p) → Placing admits start arcs js parts given words marks start given
  placing_begin marks long all only worded = record {
    long = long;
    known = λ p m. (only p m).0;
    worded = λ p m. worded p (only p m).0 (only p m).1;
    pieces = λ j has m. absurd (⊎_elim (λ l. used_not_root js j has _ (inl refl) (only _ l).1) (λ r. used_not_root js j has _ (inr refl) (only _ r).1) m);
    roots = all;
    kept = λ p low root. refl;
    reworded = record { long = refl; automata = λ p. refl; rest = refl };
    renumbered = λ n low. renumbered_none n start;
  }

  module _ (marks : List Bool) (states : List State) (report : List Row) (inv : Placing admits start arcs js parts given words marks states report) where
    plain : Renumbered 0 start states
    plain = inv.renumbered 0 (λ p low. omega arith)

    -- the automata are as they were
    pub automaton_same : (p : ℕ) → automaton_of states arcs report p ≡ automaton_of start arcs given p
    automaton_same p = at_renumbered 0 start states arcs plain (row report p).automaton ∙ ap (at start arcs) (inv.reworded.automata p)

    pub automaton_start : (p : ℕ) → automaton_of start arcs report p ≡ automaton_of start arcs given p
    automaton_start p = ap (at start arcs) (inv.reworded.automata p)

    pub standing_still : (used : Rows) → Standing start arcs used parts given → Standing states arcs used parts report
    standing_still used h = record {
      in_use = in_use_renumbered 0 start states arcs plain used h.in_use;
      rows_there = omega (arith, h.rows_there, inv.reworded.long);
      stands = λ p low. stands_renumbered 0 start states arcs plain used _ (subst (Stands start arcs used) (sym (inv.reworded.automata p)) (h.stands p low));
    }

    -- the word of a marked whole is a word of the left and one of the right
    pub still_in_turn : (j : Join) → ((w : Word) → Accepts admits (automaton_of start arcs given j.whole) w → InTurn admits (automaton_of start arcs given j.left) (automaton_of start arcs given j.right) w) →
        Marked marks j.whole → InTurn admits (automaton_of states arcs report j.left) (automaton_of states arcs report j.right) (word_at words (row report j.whole).word)
    still_in_turn j turns m =
        let w = word_at words (row report j.whole).word in
        let there = turns w (subst (λ (a : Automaton L). Accepts admits a w) (automaton_start j.whole) (inv.worded j.whole m).0) in
        subst (λ (a : Automaton L). InTurn admits a (automaton_of states arcs report j.right) w) (sym (automaton_same j.left))
        (subst (λ (a : Automaton L). InTurn admits (automaton_of start arcs given j.left) a w) (sym (automaton_same j.right)) there)

    -- where all joins are settled, every part at or below a root is marked
    module _ (settled : (j : Join) → Has js j → Settled marks j) where
      pub all_marked : (p : ℕ) → ((r : ℕ) × (r < parts) × Root js r × AtOrBelow js r p) → Marked marks p
      all_marked p from =
          let m = inv.roots from.0 from.1 from.2 in
          ⊎_elim (λ same. subst (Marked marks) same m) (λ below. settled_all js marks settled below m) from.3

      pub all_pieces : ((p : ℕ) → p < parts → Marked marks p) → Known parts js → AllPieces js report
      all_pieces all known j has = (inv.pieces j has (inl (all j.left (known j has).1))).3

    -- the word of one more whole is split up
    module _ (single : SingleUse js) (all_Known : Known parts js) (few : parts ≤ 64) (rows_there : parts ≤ length report) (j : Join) (has : Has js j) (found : Marked marks j.whole) (not_yet : Settled marks j → ⊥)
        (states' : List State) (report' : List Row) (up : SplitUp admits states arcs words j report report') where
      abbrev i : ℕ
      i = up.place

      abbrev whole : Span
      whole = (row report j.whole).word

      abbrev mid : List Row
      mid = left_piece report j i

      abbrev after : List Row
      after = right_piece report mid j i

      abbrev m₁ : List Bool
      m₁ = set marks j.left true

      abbrev m₂ : List Bool
      m₂ = set m₁ j.right true

      ends : (j.whole < parts) × (j.left < parts) × (j.right < parts)
      ends = all_Known j has

      differ : j.left ≡ j.right → ⊥
      differ = subst (λ (i : Join). i.left ≡ i.right → ⊥) (has.2 none) (parts_differ js has.0 has.1 single)

      left_open : Marked marks j.left → ⊥
      left_open m = let h = inv.pieces j has (inl m) in not_yet (λ _. (h.1, h.2))

      right_open : Marked marks j.right → ⊥
      right_open m = let h = inv.pieces j has (inr m) in not_yet (λ _. (h.1, h.2))

      low₁ : j.left < length marks
      low₁ = omega (arith, ends.1, inv.long)

      low₂ : j.right < length m₁
      low₂ = omega (arith, ends.2, inv.long, length-set marks j.left true)

      keeps : (p : ℕ) → Marked marks p → Marked m₂ p
      keeps p m = mark_keeps m₁ j.right p low₂ (mark_keeps marks j.left p low₁ m)

      left_marked : Marked m₂ j.left
      left_marked = mark_keeps m₁ j.right j.left low₂ (get_or-set_same marks j.left true false low₁)

      right_marked : Marked m₂ j.right
      right_marked = get_or-set_same m₁ j.right true false low₂

      cases : (p : ℕ) → Marked m₂ p → Marked marks p ⊎ UsedBy p j
      cases p m = ⊎_elim (λ was. ⊎_elim (λ old. inl old) (λ l. inr (inl l)) (mark_cases marks j.left p was)) (λ r. inr (inr r)) (mark_cases m₁ j.right p m)

      row_other : (p : ℕ) → (p ≡ j.left → ⊥) → (p ≡ j.right → ⊥) → row after p ≡ row report p
      row_other p l r = get_or-set_other mid j.right p _ blank r ∙ get_or-set_other report j.left p _ blank l

      row_marked : (p : ℕ) → Marked marks p → row after p ≡ row report p
      row_marked p m = row_other p (λ e. left_open (subst (Marked marks) e m)) (λ e. right_open (subst (Marked marks) e m))

      row_left : row after j.left ≡ with_word (row report j.left) whole.first i
      row_left = get_or-set_other mid j.right j.left _ blank differ ∙ get_or-set_same report j.left _ blank (omega (arith, ends.1, rows_there))

      mid_right : row mid j.right ≡ row report j.right
      mid_right = get_or-set_other report j.left j.right _ blank (λ e. differ (sym e))

      row_right : row after j.right ≡ with_word (row report j.right) (whole.first + i) (whole.len - i)
      row_right =
          get_or-set_same mid j.right _ blank (omega (arith, ends.2, rows_there, length-set report j.left (with_word (row report j.left) whole.first i)))
          ∙ ap (λ (r : Row). with_word r (whole.first + i) (whole.len - i)) mid_right

      -- a row with a word of its automaton, in the table
      abbrev Good : Row → Type 0
      Good r = Accepts admits (at start arcs r.automaton) (word_at words r.word) × (r.word.first + r.word.len ≤ length words)

      same_at : (p : Place) → at states arcs p ≡ at start arcs p
      same_at p = at_renumbered 0 start states arcs plain p

      inside : whole.first + whole.len ≤ length words
      inside = (inv.worded j.whole found).1

      good_left : Good (with_word (row report j.left) whole.first i)
      good_left = (
        subst (λ (a : Automaton L). Accepts admits a (word_at words (record { first = whole.first; len = i }))) (same_at (row report j.left).automaton)
            (subst (Accepts admits (automaton_of states arcs report j.left)) (left_word words whole.first whole.len i up.within) up.left),
        omega (arith, inside, up.within),
      )

      good_right : Good (with_word (row report j.right) (whole.first + i) (whole.len - i))
      good_right = (
        subst (λ (a : Automaton L). Accepts admits a (word_at words (record { first = whole.first + i; len = whole.len - i }))) (same_at (row report j.right).automaton)
            (subst (Accepts admits (automaton_of states arcs report j.right)) (right_word words whole.first whole.len i up.within) up.right),
        omega (arith, inside, up.within),
      )

      good : (p : ℕ) → Marked m₂ p → Good (row after p)
      good p m =
          ⊎_elim
          (λ old. subst Good (sym (row_marked p old)) (inv.worded p old))
          (λ by. ⊎_elim (λ l. subst (λ q. Good (row after q)) l (subst Good (sym row_left) good_left)) (λ r. subst (λ q. Good (row after q)) r (subst Good (sym row_right) good_right)) by) (cases p m)

      pieces_here : Pieces after j
      pieces_here =
          let first = λ (r : Row). r.word.first in
          let len = λ (r : Row). r.word.len in
          let as-was = row_marked j.whole found in
          record {
            left_first = ap first row_left ∙ sym (ap first as-was);
            right_after = omega (arith, ap first row_right, ap first row_left, ap len row_left);
            together = omega (arith, ap len as-was, ap len row_left, ap len row_right, up.within);
          }

      abbrev Split : Join → Type 0
      Split o = Marked m₂ o.whole × Marked m₂ o.left × Marked m₂ o.right × Pieces after o

      split_other : (o : Join) (has' : Has js o) → (has'.0 ≡ has.0 → ⊥) → Marked m₂ o.left ⊎ Marked m₂ o.right → Split o
      split_other o has' other m =
          let no_by : (p : ℕ) → UsedBy p j → UsedBy p o → ⊥ = λ p by by'. no_other js has.0 has.1 single has'.0 has'.1 other p (subst (UsedBy p) (sym (has.2 none)) by) (subst (UsedBy p) (sym (has'.2 none)) by') in
          let was : Marked marks o.left ⊎ Marked marks o.right =
          ⊎_elim
          (λ l. inl (⊎_elim (λ old. old) (λ by. absurd (no_by o.left by (inl refl))) (cases o.left l)))
          (λ r. inr (⊎_elim (λ old. old) (λ by. absurd (no_by o.right by (inr refl))) (cases o.right r))) m in
          let h = inv.pieces o has' was in
          (keeps o.whole h.0, keeps o.left h.1, keeps o.right h.2, pieces_kept report after o (row_marked o.whole h.0) (row_marked o.left h.1) (row_marked o.right h.2) h.3)

      split_all : (o : Join) → Has js o → Marked m₂ o.left ⊎ Marked m₂ o.right → Split o
      split_all o has' m =
          ⊎_elim
          (λ same. subst Split (sym (has.2 none) ∙ ap (λ n. get_or js n none) (sym same) ∙ has'.2 none) (keeps j.whole found, left_marked, right_marked, pieces_here))
          (λ other. split_other o has' other m) (cases_eq has'.0 has.0)

      root_kept : (p : ℕ) → p < parts → Root js p → row after p ≡ row given p
      root_kept p low' root = row_other p (λ e. used_not_root js j has p (inl (sym e)) root) (λ e. used_not_root js j has p (inr (sym e)) root) ∙ inv.kept p low' root

      reworded_after : Reworded parts given after
      reworded_after =
          reworded_more parts given report after inv.reworded
          (reworded_more parts report mid after (reworded_set parts report j.left whole.first i ends.1 (omega (arith, ends.1, rows_there)))
          (reworded_set parts mid j.right (whole.first + i) (whole.len - i) ends.2 (omega (arith, ends.2, rows_there, length-set report j.left (with_word (row report j.left) whole.first i)))))

      pub placing_more : ((n : ℕ) → n ≤ (row report j.left).automaton.first.states → n ≤ (row report j.right).automaton.first.states → Renumbered n states states') →
          Placing admits start arcs js parts given words m₂ states' report'
      placing_more moved = subst (Placing admits start arcs js parts given words m₂ states') (sym up.rows) (record {
        long = length-set m₁ j.right true ∙ length-set marks j.left true ∙ inv.long;
        known = λ p m. ⊎_elim (λ old. inv.known p old) (λ by. ⊎_elim (λ l. subst (λ q. q < parts) l ends.1) (λ r. subst (λ q. q < parts) r ends.2) by) (cases p m);
        worded = good;
        pieces = split_all;
        roots = λ p low' root. keeps p (inv.roots p low' root);
        kept = root_kept;
        reworded = reworded_after;
        renumbered = λ n firsts.
            let first = λ (q : Place). q.first.states in
            renumbered_more n start states states' (inv.renumbered n firsts)
            (moved n (omega (arith, firsts j.left ends.1, ap first (inv.reworded.automata j.left))) (omega (arith, firsts j.right ends.2, ap first (inv.reworded.automata j.right))));
      })
