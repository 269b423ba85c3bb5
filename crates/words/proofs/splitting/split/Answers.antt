use Rattle.std.proofs.Common.{ℕ, ◌+◌, ◌<◌, ◌≤◌, arith, below_more}
use Rattle.std.proofs.lemmas.Bool.{both_ways}
use Rattle.words.specs.Splitting.{SplitsAt}
use Rattle.words.specs.Words.{Renumbered}
use Rattle.words.proofs.Renumbering.{renumbered_more, renumbered_back}
use Rattle.words.proofs.Splits.{splits_renumbered, splits_never}
use Rattle.words.proofs.splitting.split.Given as given
use Rattle.words.proofs.splitting.split.Goals as goal
use Rattle.words.proofs.splitting.split.Goals.{After-splits_at, Else-splits_at}

-- the rows that are kept after one place more
more : (g : given.Over) (c : After-splits_at g) → (n : ℕ) → n ≤ c.args.left.first.states → n ≤ c.args.right.first.states → Renumbered n c.args.states.now c.splits_at.new.states
more g c n low high = renumbered_more n c.args.states.now c.loop-i.states c.splits_at.new.states (c.loop-i.invariant.0 n low high) (c.splits_at.ensures.renumbers n low high)

-- no place up to this one splits the word
never : (g : given.Over) (c : Else-splits_at g) → (j : ℕ) → j < c.loop-i.i + 1 → SplitsAt g.A.Alphabet.labels.admits c.args.states.now c.args.arcs.now c.args.used c.args.left c.args.right c.args.word.now j → ⊥
never g c =
    let admits = g.A.Alphabet.labels.admits in
    let splits = SplitsAt admits c.args.states.now c.args.arcs.now c.args.used c.args.left c.args.right c.args.word.now in
    below_more (λ j. splits j → ⊥) c.loop-i.i c.loop-i.invariant.1
    (λ s. both_ways _ c.if-splits_at.false
    (c.splits_at.ensures.decides.1 (splits_renumbered admits c.args.arcs.now c.args.used c.args.left c.args.right c.args.word.now 0 c.args.states.now c.loop-i.states (c.loop-i.invariant.0 0 (omega arith) (omega arith)) c.loop-i.i s)))

pub loop-i-preserved : goal.loop-i-preserved
loop-i-preserved g c = (more g (goal.at.loop-i-preserved g c).After-splits_at, never g (goal.at.loop-i-preserved g c).Else-splits_at)

pub returns-then-splits_at : goal.returns-then-splits_at
returns-then-splits_at g c =
    let start = c.args.states.now in
    let states = c.loop-i.states in
    let back = renumbered_back 0 start states (c.loop-i.invariant.0 0 (omega arith) (omega arith)) in
    let s = splits_renumbered g.A.Alphabet.labels.admits c.args.arcs.now c.args.used c.args.left c.args.right c.args.word.now 0 states start back c.loop-i.i (c.splits_at.ensures.decides.0 c.if-splits_at.true) in
    record {
      finds = (c.loop-i-test.true, s.front, s.back);
      renumbers = more g (goal.at.returns-then-splits_at g c).After-splits_at;
    }

pub returns-else-splits_at : goal.returns-else-splits_at
returns-else-splits_at g c =
    record {
      finds = splits_never g.A.Alphabet.labels.admits c.args.arcs.now c.args.used c.args.left c.args.right c.args.word.now c.args.states.now (λ i low. never g (goal.at.returns-else-splits_at g c).Else-splits_at i (omega arith));
      renumbers = more g (goal.at.returns-else-splits_at g c).After-splits_at;
    }
