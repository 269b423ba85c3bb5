use Rattle.std.proofs.Common.{refl}
use Rattle.solve.proofs.Judged.{listed_standing, listed_sound, listed_bounds}
use Rattle.solve.proofs.judge.judge.Goals as goal

pub place_words-requires : goal.place_words-requires
place_words-requires g c =
    let lists = c.list_parts-2.ensures.lists in
    record {
      standing = listed_standing lists c.requires.ready c.requires.has_rows;
      single_use = c.if-not-is_single_use.ensures.decides.0 refl;
      sound = listed_sound lists c.requires.ready c.requires.joined.known;
      has_room = listed_bounds lists c.args.joins.now _ c.in_default.ensures.finds;
    }
