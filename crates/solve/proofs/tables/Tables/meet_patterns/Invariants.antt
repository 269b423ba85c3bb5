use Rattle.std.proofs.Common.{◌≡◌, map, take, Ok}
use Rattle.verdict.specs.Course.{pattern_operands}
use Rattle.verdict.specs.Problem.{read}
use Rattle.solve.specs.Builds.{Went}
use Rattle.solve.proofs.tables.Tables.meet_patterns.Given as goal

abbrev pub invariant-loop-held : goal.invariant-loop-held
invariant-loop-held g l =
    let first = l.fn.self in
    Went g.A.Alphabet.labels (pattern_operands (map (read first.states.now first.arcs.now) (take l.held-index l.patterns)) l.part) (record { used = first.used; running = l.fn.running }) first.states.now first.arcs.now l.self.states.now l.self.arcs.now (Ok (record { used = l.self.used; running = l.met }))
    × (l.self.states.ghost_name ≡ first.states.ghost_name)
    × (l.self.arcs.ghost_name ≡ first.arcs.ghost_name)
