use Rattle.std.proofs.Common.{◌≡◌, ℕ, ◌+◌, ◌<◌, [], ◌∷◌, ◌++◌, map, length, drop, get_or, min, ap, arith, rules, refl, sym, ◌∙◌, subst}
use Rattle.std.proofs.lemmas.List.{get_or-map, length-map}
use Rattle.automaton.specs.declared.Arc.{Arc}
use Rattle.automaton.specs.Automaton.{plain, unmarked}
use Rattle.build.specs.Tables.{part}
use Rattle.build.specs.declared.Rows.{Rows}
use Rattle.sheet.specs.Calls.{rows}
use Rattle.sheet.proofs.Holding.{for_parts_and, among_and, rows_are}
use Rattle.sheet.proofs.Sheet.pattern.Given as given
use Rattle.sheet.proofs.Sheet.pattern.Goals as goal
use Rattle.sheet.proofs.Sheet.pattern.Goals.{After-write_rows-2}

-- no sum of rows passes the largest number
held_rows : (g : given.Over) (c : After-write_rows-2 g) → c.end-end.result ≡ rows (c.args.self.now.held.states + c.state_count.result) (c.args.self.now.held.arcs + c.arc_count.result)
held_rows g c =
    let s = c.args.self.now in
    let small = c.in_ok-check.ensures.checked.0.0 in
    let states : min (s.held.states + c.state_count.result) 18446744073709551615 ≡ s.held.states + c.state_count.result = omega (arith, s.few_states, small.0, c.state_count.ensures.counts_states) in
    let arcs : min (s.held.arcs + c.arc_count.result) 18446744073709551615 ≡ s.held.arcs + c.arc_count.result = omega (arith, s.few_arcs, small.1, c.arc_count.ensures.counts_arcs) in
    c.end-end.ensures.ends ∙ (λ i. rows (states i) (arcs i))

pub invariant_of-self-clause-for_parts : goal.invariant_of-self-clause-for_parts
invariant_of-self-clause-for_parts g c =
    let s = c.args.self.now in
    rw c.push.ensures.items (for_parts_and s.parts s.patterns.items _ s.for_parts (omega arith))

pub invariant_of-self-clause-among : goal.invariant_of-self-clause-among
invariant_of-self-clause-among g c =
    let s = c.args.self.now in
    rw (c.push.ensures.items, held_rows g (goal.at.invariant_of-self-clause-among g c).After-write_rows-2) (among_and s.held s.patterns.items c.args.part c.state_count.result c.arc_count.result s.among)

pub returns : goal.returns
returns g c =
    let s = c.args.self.now in
    let m = g.G.Giver.automaton c.args.giver.now in
    let d = (goal.at.returns g c).After-write_rows-2 in
    let states = c.state_count.ensures.counts_states in
    let arcs = c.arc_count.ensures.counts_arcs in
    let fit = rw (held_rows g d) at c.if-not-fits.ensures.decides.0 refl in
    let full : Arc g.row.A-Label.Denot = record { from = 0; label = g.A.Alphabet.labels.full; to = 0 } in
    let state : (k : ℕ) → k < c.state_count.result → get_or (part c.write_rows.new.rows s.held.states c.state_count.result) k (plain unmarked) ≡ plain (get_or m.states k unmarked) = λ k low. let w = c.write_rows.ensures.writes k (plain unmarked) low in search rules in
    let arc : (k : ℕ) → k < c.arc_count.result → get_or (part c.write_rows-2.new.rows s.held.arcs c.arc_count.result) k full ≡ get_or m.arcs k full = λ k low. let w = c.write_rows-2.ensures.writes k full low in search rules in
    let counted : rows (s.held.states + c.state_count.result) (s.held.arcs + c.arc_count.result) ≡ rows (s.held.states + length m.states) (s.held.arcs + length m.arcs) = λ i. rows (s.held.states + states i) (s.held.arcs + arcs i) in
    record {
      answers = (
        (omega arith, (search rules, (c.in_ok-check.ensures.checked.0.0, (c.in_ok-check.ensures.checked.0.1, (c.if-not-is_whole.ensures.decides.0 refl, (record { states_fit = omega (arith, fit.states_fit, states); arcs_fit = omega (arith, fit.arcs_fit, arcs) }, tt)))))),
        (λ i. record { parts = s.parts; patterns = (c.push.ensures.items ∙ ap (λ (n : Rows). s.patterns.items ++ record { part = c.args.part; place = record { first = s.held; count = n } } ∷ []) (λ j. rows (states j) (arcs j))) i; joins = s.joins.items; held = (held_rows g d ∙ counted) i }),
        record {
          states_kept = assumption;
          arcs_kept = assumption;
          states_are = ap (part c.write_rows.new.rows s.held.states) (sym states) ∙ rows_are _ (map plain m.states) s.held.states c.state_count.result (plain unmarked) (states ∙ sym (length-map m.states plain)) (omega arith) (λ k low. state k low ∙ sym (get_or-map plain m.states k unmarked (plain unmarked) (omega arith)));
          arcs_are = ap (part c.write_rows-2.new.rows s.held.arcs) (sym arcs) ∙ rows_are _ m.arcs s.held.arcs c.arc_count.result full arcs (omega arith) arc;
          states_behind = subst (λ n. drop (s.held.states + n) c.write_rows.new.rows ≡ drop (s.held.states + n) c.args.states.now) states c.write_rows.ensures.behind;
          arcs_behind = subst (λ n. drop (s.held.arcs + n) c.write_rows-2.new.rows ≡ drop (s.held.arcs + n) c.args.arcs.now) arcs c.write_rows-2.ensures.behind;
        },
      );
    }
