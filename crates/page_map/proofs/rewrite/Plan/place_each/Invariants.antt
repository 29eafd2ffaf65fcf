use Rattle.std.proofs.Common.{◌≡◌, ◌++◌, ◌≤◌, ◌+◌, take, drop, reverse}
use Rattle.std.specs.Vec.{vec_len, vec_capacity}
use Rattle.page_map.specs.inner.Plan.{made, placed, reach, brought, AreRising}
use Rattle.page_map.proofs.rewrite.Plan.place_each.Given as goal

abbrev pub invariant-loop-piece : goal.invariant-loop-piece
invariant-loop-piece l =
    let back = reverse l.pieces.items in
    let old = l.fn.pages.items in
    record {
      rising : AreRising old back;
      kept : take (reach back) l.pages.items ≡ take (reach back) old;
      whole : made old back ++ drop (reach back) l.pages.items ≡ placed old (reverse l.fn.self.pieces.items);
      room : vec_len l.pages + brought back ≤ vec_capacity l.pages;
    }

abbrev pub decreases-loop-piece : goal.decreases-loop-piece
decreases-loop-piece l = vec_len l.pieces
