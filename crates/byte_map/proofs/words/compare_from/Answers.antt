use Rattle.std.proofs.Common.{◌≡◌, ◌+◌, ◌-◌, ◌∙◌, ℕ, take, arith}
use Rattle.byte_map.proofs.Numbers.{word_apart, word_passed, by_length, fewer}
use Rattle.byte_map.proofs.words.compare_from.Goals as goal

pub returns-then-x-y : goal.returns-then-x-y
returns-then-x-y c =
    let at : ℕ = c.lesser-both.result - 8 in
    c.by_number.ensures
    ∙ word_apart at c.args.one.now c.args.other.now (fewer 16 c.args.one.now c.args.other.now c.requires.same at (omega (arith, c.if-both-le24.true))) (λ k. (c.type_inv.one k).fits) (λ k. (c.type_inv.other k).fits)
    c.word-x.result c.word-y.result c.word-x.ensures c.word-y.ensures c.if-x-y.true

pub returns-then-both-le24 : goal.returns-then-both-le24
returns-then-both-le24 c =
    let at : ℕ = c.lesser-both.result - 8 in
    let more : take (at + 8) c.args.one.now ≡ take (at + 8) c.args.other.now =
    word_passed at c.args.one.now c.args.other.now (fewer 16 c.args.one.now c.args.other.now c.requires.same at (omega (arith, c.if-both-le24.true))) (λ k. (c.type_inv.one k).fits) (λ k. (c.type_inv.other k).fits)
    c.word-x.result c.word-y.result c.word-x.ensures c.word-y.ensures c.if-x-y.false
    (omega (arith, c.lesser-both.ensures, c.requires.one, c.requires.other)) (omega (arith, c.lesser-both.ensures, c.requires.one, c.requires.other)) in
    c.cmp.ensures ∙ by_length (at + 8) c.args.one.now c.args.other.now (omega (arith, c.lesser-both.ensures)) more
