use Rattle.std.proofs.Common.{drop, sym, subst}
use Rattle.automaton.specs.Automaton.{Automaton, Accepts}
use Rattle.build.specs.Tables.{at}
use Rattle.words.proofs.Renumbering.{renumbered_more, renumbered_less, renumbered_back, at_renumbered, in_use_renumbered, stands_renumbered}
use Rattle.words.proofs.splitting.splits_at.Goals as goal

pub returns-then-accepts : goal.returns-then-accepts
returns-then-accepts g c =
    let admits = g.A.Alphabet.labels.admits in
    let arcs = c.args.arcs.now in
    let used = c.args.used in
    let left = c.args.left in
    let right = c.args.right in
    let start = c.args.states.now in
    let mid = c.accepts.new.states in
    let there = c.accepts.ensures.renumbers in
    let n = left.first.states in
    let rest = drop c.args.i c.args.word.now in
    let front = c.accepts.ensures.decides.0 c.if-accepts.true in
    record {
      decides = (
        λ e.
            let back = c.accepts-then-accepts.ensures.decides.0 e in
            record {
              in_use = front.0;
              left_stands = front.1;
              right_stands = stands_renumbered n mid start arcs (renumbered_back n start mid there) used right back.1;
              front = subst (Accepts admits (at start arcs left)) c.split_at.ensures.front front.2;
              back = subst (λ (m : Automaton g.row.A-Label.Denot). Accepts admits m rest) (at_renumbered n start mid arcs there right) (subst (Accepts admits (at mid arcs right)) c.split_at.ensures.back back.2);
            },
        λ s.
            c.accepts-then-accepts.ensures.decides.1 (
              in_use_renumbered n start mid arcs there used s.in_use,
              stands_renumbered n start mid arcs there used right s.right_stands,
              subst (Accepts admits (at mid arcs right)) (sym c.split_at.ensures.back) (subst (λ (m : Automaton g.row.A-Label.Denot). Accepts admits m rest) (sym (at_renumbered n start mid arcs there right)) s.back),
            ),
      );
      renumbers = λ m low high. renumbered_more m start mid _ (renumbered_less n m start mid low there) (renumbered_less right.first.states m mid _ high c.accepts-then-accepts.ensures.renumbers);
    }

pub returns-else-accepts-clause-renumbers : goal.returns-else-accepts-clause-renumbers
returns-else-accepts-clause-renumbers g c = λ m low high. renumbered_less c.args.left.first.states m c.args.states.now c.accepts.new.states low c.accepts.ensures.renumbers
