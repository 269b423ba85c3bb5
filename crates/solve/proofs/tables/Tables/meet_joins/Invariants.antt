use Rattle.std.proofs.Common.{◌≡◌, take, Ok}
use Rattle.verdict.specs.Course.{join_operands}
use Rattle.solve.specs.Builds.{Went}
use Rattle.solve.specs.Parts.{dones}
use Rattle.solve.proofs.tables.Tables.meet_joins.Given as goal

abbrev pub invariant-loop-join : goal.invariant-loop-join
invariant-loop-join g l =
    let first = l.fn.self in
    Went g.A.Alphabet.labels (join_operands (dones first.states.now first.arcs.now l.finished) (take l.join-index l.joins) l.part) (record { used = first.used; running = l.fn.running }) first.states.now first.arcs.now l.self.states.now l.self.arcs.now (Ok (record { used = l.self.used; running = l.met }))
    × (l.self.states.ghost_name ≡ first.states.ghost_name)
    × (l.self.arcs.ghost_name ≡ first.arcs.ghost_name)
