use Rattle.std.proofs.Common.{sym, subst₂, set, inl, arith}
use Rattle.automaton.specs.Nfa.{all_words}
use Rattle.build.specs.Outcome.{Built}
use Rattle.build.proofs.Covering.{covers_built, covers_no_states, covers_no_arcs, covers_exact}
use Rattle.build.proofs.all_words.all_words.Given as given
use Rattle.build.proofs.all_words.all_words.Goals as goal
use Rattle.build.proofs.all_words.all_words.Goals.{After-full}

pub returns-then-used-state_room-clause-answers : goal.returns-then-used-state_room-clause-answers
returns-then-used-state_room-clause-answers g c = inl (c.in_use.ensures.decides.0 c.if-not-in_use.false, covers_no_states g.A.Alphabet.labels c.args.used c.args.states.now (omega arith))

pub returns-then-used-arc_room-clause-answers : goal.returns-then-used-arc_room-clause-answers
returns-then-used-arc_room-clause-answers g c = inl (c.in_use.ensures.decides.0 c.if-not-in_use.false, covers_no_arcs g.A.Alphabet.labels c.args.used c.args.states.now c.args.arcs.now (omega arith) (omega arith))

built : (g : given.Over) (c : After-full g) → Built g.A.Alphabet.labels (all_words g.A.Alphabet.labels) c.args.used (set c.args.states.now c.args.used.states c.from.result) (set c.args.arcs.now c.args.used.arcs (record { from = 0; label = c.full.result; to = 0 })) (record { first = c.args.used; count = record { states = 1; arcs = 1 } })
built g c =
    let a = g.A.Alphabet.labels in
    let used = c.args.used in
    subst₂ (λ row l. Built a (all_words a) used (set c.args.states.now used.states row) (set c.args.arcs.now used.arcs (record { from = 0; label = l; to = 0 })) (record { first = used; count = record { states = 1; arcs = 1 } }))
    (sym c.from.ensures) (sym c.full.ensures.is_full) (covers_built a used c.args.states.now c.args.arcs.now (omega arith) (omega arith))

pub returns-clause-answers : goal.returns-clause-answers
returns-clause-answers g c = inl (c.in_use.ensures.decides.0 c.if-not-in_use.false, built g (goal.at.returns-clause-answers g c).After-full)

pub returns-clause-accepts_every_word : goal.returns-clause-accepts_every_word
returns-clause-accepts_every_word g c = let d = (goal.at.returns-clause-accepts_every_word g c).After-full in covers_exact g.A.Alphabet.labels g.met.A.Alphabet.lawful c.args.used _ _ _ (built g d)
