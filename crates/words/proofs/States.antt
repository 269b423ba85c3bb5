-- State rows whose marks stay, and arcs that are read one by one.
use Rattle.std.proofs.Common.{◌≡◌, ℕ, ◌<◌, List, map, length, get_or, sym, ap, ◌∙◌}
use Rattle.std.specs.List.{ContainsAt as Has}
use Rattle.std.proofs.lemmas.List.{length-map, get_or-map, get_or_default}
use Rattle.alphabet.specs.Labels.{Labels}
use Rattle.automaton.specs.declared.Arc.{Arc}
use Rattle.automaton.specs.declared.State.{State}
use Rattle.automaton.specs.Automaton.{Automaton, arc_at, unmarked}
use Rattle.build.specs.Concats.{blank}
use Rattle.words.specs.States.{row, LeadWithin}

-- rows with the same marks are as many
pub length_marks : (before after : List State) → map (λ s. s.marks) after ≡ map (λ s. s.marks) before → length after ≡ length before
length_marks before after same = sym (length-map after (λ (s : State). s.marks)) ∙ ap length same ∙ length-map before (λ (s : State). s.marks)

-- the marks of a state stand in its row
pub marks_row : {L : Type 0} (m : Automaton L) (states : List State) → m.states ≡ map (λ s. s.marks) states → (q : ℕ) → q < length states → get_or m.states q unmarked ≡ (row states q).marks
marks_row m states is q low = ap (λ l. get_or l q unmarked) is ∙ get_or-map (λ (s : State). s.marks) states q blank unmarked low

module _ {L : Type 0} (arcs : List (Arc L)) (i : ℕ) (b : Arc L) (low : i < length arcs) (is : b ≡ get_or arcs i b) where
  -- an arc that a loop over the arcs has come to
  pub has_arc : Has arcs b
  has_arc = (i, low, λ d. get_or_default arcs i d b low ∙ sym is)

  pub arc_ends : (n : ℕ) → LeadWithin arcs n → (b.from < n) × (b.to < n)
  arc_ends n inside = inside b has_arc

  pub is_arc_at : (a : Labels L) (m : Automaton L) → m.arcs ≡ arcs → b ≡ arc_at a m i
  is_arc_at a m same =
      let d : Arc L = record { from = 0; label = a.full; to = 0 } in
      is ∙ get_or_default arcs i b d low ∙ ap (λ l. get_or l i d) (sym same)
