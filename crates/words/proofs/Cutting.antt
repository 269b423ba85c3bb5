-- The rows of an automaton, cut out of the tables.
use Rattle.std.proofs.Common.{◌≡◌, ℕ, ◌+◌, ◌-◌, ◌≤◌, List, map, length, take, drop, ◌++◌, sym, ap, ◌∙◌, arith}
use borrow.Rule.Slice.PartMut.{put_mid, put_same}
use Rattle.std.proofs.lemmas.List.{length-map, map-append}
use Rattle.std.proofs.lemmas.Slice.{take-put_mid_below}
use Rattle.automaton.specs.declared.Arc.{Arc}
use Rattle.automaton.specs.declared.State.{State}
use Rattle.automaton.specs.Automaton.{Inside, of_rows}
use Rattle.build.specs.declared.Rows.{Rows}
use Rattle.build.specs.declared.Place.{Place}
use Rattle.build.specs.Tables.{InUse, Stands, end}
use Rattle.words.specs.States.{LeadWithin}
use Rattle.words.specs.Words.{Renumbered}

module _ {L : Type 0} (states : List State) (arcs : List (Arc L)) where
  pub lead_within : Inside (of_rows states arcs) → LeadWithin arcs (length states)
  lead_within inside b has = let both = inside b has in let n = length-map states (λ (s : State). s.marks) in (omega (arith, both.0), omega (arith, both.1))

  module _ (used : Rows) (p : Place) (use' : InUse states arcs used) (stands : Stands states arcs used p) where
    -- the end of a place counts its rows
    pub states_end : (e : Rows) → e ≡ end p → e.states - p.first.states ≡ p.count.states
    states_end e is = omega (arith, ap (λ (r : Rows). r.states) is, use'.states_fit, stands.lies.states)

    pub arcs_end : (e : Rows) → e ≡ end p → e.arcs - p.first.arcs ≡ p.count.arcs
    arcs_end e is = omega (arith, ap (λ (r : Rows). r.arcs) is, use'.arcs_fit, stands.lies.arcs)

-- the rows of a part have the marks that they had
pub renumbered_part : (first n : ℕ) (states rows : List State) → first + n ≤ length states → map (λ s. s.marks) rows ≡ map (λ s. s.marks) (take n (drop first states)) → Renumbered first states (put_mid first n states rows)
renumbered_part first n states rows fits same =
    let f = λ (s : State). s.marks in
    let rest = drop n (drop first states) in
    let put : (r : List State) → map f (put_mid first n states r) ≡ map f (take first states) ++ (map f r ++ map f rest) = λ r. map-append f (take first states) (r ++ rest) ∙ ap (λ l. map f (take first states) ++ l) (map-append f r rest) in
    record {
      marks = put rows ∙ ap (λ l. map f (take first states) ++ (l ++ map f rest)) same ∙ sym (put (take n (drop first states))) ∙ ap (map f) (put_same first n states);
      front = take-put_mid_below first n states rows first (omega arith) (omega arith);
    }
