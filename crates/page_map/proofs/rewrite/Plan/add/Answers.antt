use Rattle.std.proofs.Common.{◌∙◌, ◌+◌, ◌-◌, ◌++◌, length, take, drop, reverse, ap, sym, refl, arith}
use Rattle.page_map.specs.Pages.{joined}
use Rattle.page_map.specs.inner.Plan.{made}
use Rattle.page_map.specs.declared.rewrite.Piece.{Piece}
use Rattle.page_map.specs.declared.rewrite.Plan.{Plan}
use Rattle.page_map.proofs.Placing.{counts, made_more, planned}
use Rattle.page_map.proofs.rewrite.Plan.add.Goals as goal

pub overflow_sub-others : goal.overflow_sub-others
overflow_sub-others c = omega (arith, c.len_at.ensures, counts c.args.pages.now c.args.self.now c.requires.plan c.args.at c.requires.ahead c.requires.in_range)

pub returns-clause-plan : goal.returns-clause-plan
returns-clause-plan c =
    let piece : Piece = record { at = c.args.at; pages = c.in_ok-new.new } in
    let new : Plan = record { pieces = c.push.new.self; reach = c.args.at + 1; base = c.args.self.now.base; room = c.in_ok-room.room; len = c.in_ok-len.len; shifts = c.saturating_add-self.result } in
    planned c.args.pages.now c.args.self.now c.requires.plan c.args.at c.requires.ahead c.requires.in_range new piece refl c.in_ok-push.ensures.items refl refl
    (c.in_ok-room.ensures ∙ ap (λ l. c.args.self.now.room + length l) c.as_slice-count.ensures.value)
    (c.in_ok-len.ensures ∙ (λ i. (c.args.self.now.len - c.len_at.ensures i) + (c.in_ok-new.ensures.many ∙ ap length (sym c.in_ok-new.ensures.pages)) i))

pub returns-clause-made : goal.returns-clause-made
returns-clause-made c =
    let piece : Piece = record { at = c.args.at; pages = c.in_ok-new.new } in
    let new : Plan = record { pieces = c.push.new.self; reach = c.args.at + 1; base = c.args.self.now.base; room = c.in_ok-room.room; len = c.in_ok-len.len; shifts = c.saturating_add-self.result } in
    made_more c.args.pages.now c.args.self.now c.requires.plan c.args.at c.requires.ahead c.requires.in_range new piece refl c.in_ok-push.ensures.items
    ∙ ap (λ l. joined (made c.args.pages.now (reverse c.args.self.now.pieces.items)) ++ (joined (drop c.args.self.now.reach (take c.args.at c.args.pages.now)) ++ l)) c.in_ok-new.ensures.pages
