use Rattle.std.proofs.Common.{◌≡◌, ◌++◌, ◌≤◌, ◌+◌, take, drop, reverse}
use Rattle.std.specs.Vec.{vec_len, vec_capacity}
use Rattle.page_map.specs.inner.Plan.{made, placed, reach, brought, AreRising}
use Rattle.page_map.proofs.Placing.{IsNear}
use Rattle.page_map.proofs.rewrite.Plan.place_all.Given as goal

abbrev pub invariant-loop-piece : goal.invariant-loop-piece
invariant-loop-piece l =
    let back = reverse l.pieces.items in
    let old = l.fn.pages.items in
    let now = l.pages.items ++ reverse l.behind.items in
    record {
      rising : AreRising old back;
      near : IsNear old l.pages.items l.behind.items (reach back);
      kept : take (reach back) now ≡ take (reach back) old;
      whole : made old back ++ drop (reach back) now ≡ placed old (reverse l.fn.self.pieces.items);
      room : vec_len l.pages + (vec_len l.behind + brought back) ≤ vec_capacity l.pages;
      spare : vec_len l.pages + (vec_len l.behind + brought back) ≤ vec_capacity l.behind;
    }

abbrev pub decreases-loop-piece : goal.decreases-loop-piece
decreases-loop-piece l = vec_len l.pieces
