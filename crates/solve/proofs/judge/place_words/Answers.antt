use Rattle.std.proofs.Common.{ap, arith}
use Rattle.build.specs.declared.Place.{Place}
use Rattle.words.proofs.Renumbering.{renumbered_more}
use Rattle.solve.specs.Report.{word_len}
use Rattle.solve.proofs.Judged.{standing_still, sound_still, worded_renumbered, laid_still}
use Rattle.solve.proofs.Placing.{reworded_more}
use Rattle.solve.proofs.Uses.{roots_before}
use Rattle.solve.proofs.judge.place_words.Goals as goal

pub place_pieces-requires : goal.place_pieces-requires
place_pieces-requires g c =
    let admits = g.A.Alphabet.labels.admits in
    let plan = c.args.plan.now in
    let js = plan.joins.now in
    let report = c.place_roots.new.report in
    let words = c.place_roots.new.words in
    let roots = c.place_roots.ensures in
    let again = roots.renumbers 0 (λ p low. omega arith) in
    record {
      standing = standing_still roots.rewords again c.requires.standing;
      single_use = c.requires.single_use;
      in_turn = (sound_still roots.rewords again c.requires.sound).splits;
      roots_worded = (λ p low root. (
        (worded_renumbered admits c.args.arcs.now report words p again).1 (roots.accepts p low root),
        omega (arith, roots.lays.first p low root, roots_before js (word_len report) p plan.parts low root, roots.lays.within, roots.lays.long),
      ));
    }

pub returns : goal.returns
returns g c =
    let admits = g.A.Alphabet.labels.admits in
    let report = c.place_pieces.new.report in
    let roots = c.place_roots.ensures in
    let pieces = c.place_pieces.ensures in
    let again = roots.renumbers 0 (λ p low. omega arith) in
    record {
      places = record {
        renumbered = λ n low. renumbered_more n c.args.states.now c.place_roots.new.states c.place_pieces.new.states (roots.renumbers n low) (pieces.renumbers n (λ p lt. omega (arith, low p lt, ap (λ (x : Place). x.first.states) (roots.rewords.automata p))));
        reworded = reworded_more c.args.plan.now.parts c.args.report.now c.place_roots.new.report report roots.rewords pieces.rewords;
        roots = laid_still report pieces.keeps_roots roots.lays;
        pieces = pieces.pieces;
        accepts = λ p low. (worded_renumbered admits c.args.arcs.now report c.place_roots.new.words p again).0 (pieces.accepts p low);
      };
    }
