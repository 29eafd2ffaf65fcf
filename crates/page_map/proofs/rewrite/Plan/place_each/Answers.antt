use Rattle.std.proofs.Common.{◌≡◌, ◌≤◌, ◌+◌, ◌++◌, ◌∷◌, ◌∙◌, take, drop, reverse, ap, sym, subst, arith}
use Rattle.std.specs.Vec.{vec_len, vec_capacity}
use Rattle.page_map.specs.inner.Plan.{made, reach, brought, AreRising}
use Rattle.page_map.proofs.Placing.{one_more, still_kept, still_whole}
use Rattle.page_map.proofs.rewrite.Plan.place_each.Goals as goal

pub loop-piece-preserved : goal.loop-piece-preserved
loop-piece-preserved c =
    let old = c.args.pages.now.items in
    let now = c.loop-piece.pages.items in
    let piece = c.in-Some.piece in
    let before = reverse c.pop.new.self.items in
    let back : reverse c.loop-piece.pieces.items ≡ piece ∷ before = one_more c.pop.new.self.items c.loop-piece.pieces.items piece c.in-Some.ensures.items in
    let all = c.loop-piece.invariant in
    let rising : AreRising old (piece ∷ before) = subst (AreRising old) back all.rising in
    let kept : take (piece.at + 1) now ≡ take (piece.at + 1) old = subst (λ b. take (reach b) now ≡ take (reach b) old) back all.kept in
    let room : vec_len c.loop-piece.pages + brought (piece ∷ before) ≤ vec_capacity c.loop-piece.pages = subst (λ b. vec_len c.loop-piece.pages + brought b ≤ vec_capacity c.loop-piece.pages) back all.room in
    let put = c.put.ensures in
    record {
      rising = rising.2;
      kept = still_kept old now c.put.new.pages.items piece before rising kept put.items;
      whole =
          still_whole old now c.put.new.pages.items piece before rising kept put.items
          ∙ ap (λ b. made old b ++ drop (reach b) now) (sym back)
          ∙ all.whole;
      room = omega (arith, room, put.len, put.capacity, piece.pages.ok);
    }
