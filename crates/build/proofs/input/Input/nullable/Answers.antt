use Rattle.std.proofs.Common.{◌&&◌, ap, ◌∙◌, sym, rules, tests}
use Rattle.std.specs.List.{list_any}
use Rattle.std.proofs.lemmas.Iterator.{YieldsList-from_slice}
use Rattle.std.proofs.lemmas.Iterator.Search.{any_from_yields_List}
use Rattle.automaton.specs.declared.Marks.{Marks}
use Rattle.build.proofs.Joining.{list_any_map}
use Rattle.build.proofs.input.Input.nullable.Goals as goal

pub returns : goal.returns
returns g c =
    let rows = c.states.result.now in
    record {
      tells = any_from_yields_List (λ s. s.marks.initial && s.marks.accepting) _ _ _ c.any.ensures.ran (YieldsList-from_slice rows cc) (λ x b q k. search (rules, tests))
          ∙ sym (list_any_map (λ s. s.marks) (λ s. s.initial && s.accepting) rows) ∙ ap (list_any (λ (s : Marks). s.initial && s.accepting)) c.states.ensures.reads;
    }
