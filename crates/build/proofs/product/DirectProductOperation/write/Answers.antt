use Rattle.std.proofs.Common.{rules}
use Rattle.build.proofs.Producing.{product_fits}
use Rattle.build.proofs.product.DirectProductOperation.write.Goals as goal

pub returns : goal.returns
returns g c =
    let pairs = c.explore.new.pairs in
    let out = c.emit.new.out in
    record {
      fits = product_fits g.A.Alphabet.labels c.args.inputs.now.left c.args.inputs.now.right c.new-pairs.result pairs out _ c.written.result.now c.written-2.result.now _ c.written-3.result.now c.explore.result c.emit.result
          (search rules) (search rules) c.written.ensures.reads c.written-2.ensures.reads c.written-3.ensures.reads pairs.within out.within
          c.in_ok-map_err.ensures.variant c.explore.ensures.explores c.in_ok-map_err-2.ensures.variant c.emit.ensures.writes;
    }
