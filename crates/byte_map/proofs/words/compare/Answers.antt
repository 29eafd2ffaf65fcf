use Rattle.std.proofs.Common.{◌≡◌, ◌≤◌, ◌+◌, ◌-◌, ◌∙◌, ℕ, take, arith}
use Rattle.byte_map.proofs.Numbers.{word_apart, word_passed, by_length, fewer}
use Rattle.byte_map.proofs.words.compare.Goals as goal

pub returns-then-x-y : goal.returns-then-x-y
returns-then-x-y c =
    c.by_number.ensures
    ∙ word_apart c.loop-both.at c.args.one.now c.args.other.now c.loop-both.invariant.same (λ k. (c.type_inv.one k).fits) (λ k. (c.type_inv.other k).fits)
    c.word-x.result c.word-y.result c.word-x.ensures c.word-y.ensures c.if-x-y.true

pub returns-then-at-last : goal.returns-then-at-last
returns-then-at-last c =
    let at : ℕ = c.loop-both.at in
    let far : at ≤ c.lesser-both.result - 8 = c.loop-both.invariant.in_range in
    let more : take (at + 8) c.args.one.now ≡ take (at + 8) c.args.other.now =
    word_passed at c.args.one.now c.args.other.now c.loop-both.invariant.same (λ k. (c.type_inv.one k).fits) (λ k. (c.type_inv.other k).fits)
    c.word-x.result c.word-y.result c.word-x.ensures c.word-y.ensures c.if-x-y.false
    (omega (arith, far, c.lesser-both.ensures, c.if-both-lt8.false)) (omega (arith, far, c.lesser-both.ensures, c.if-both-lt8.false)) in
    c.cmp.ensures ∙ by_length (at + 8) c.args.one.now c.args.other.now (omega (arith, c.lesser-both.ensures, c.if-both-lt8.false, c.if-at-last.true)) more

pub loop-both-preserved-then-last-at-lt8 : goal.loop-both-preserved-then-last-at-lt8
loop-both-preserved-then-last-at-lt8 c =
    let at : ℕ = c.loop-both.at in
    let far : at ≤ c.lesser-both.result - 8 = c.loop-both.invariant.in_range in
    let more : take (at + 8) c.args.one.now ≡ take (at + 8) c.args.other.now =
    word_passed at c.args.one.now c.args.other.now c.loop-both.invariant.same (λ k. (c.type_inv.one k).fits) (λ k. (c.type_inv.other k).fits)
    c.word-x.result c.word-y.result c.word-x.ensures c.word-y.ensures c.if-x-y.false
    (omega (arith, far, c.lesser-both.ensures, c.if-both-lt8.false)) (omega (arith, far, c.lesser-both.ensures, c.if-both-lt8.false)) in
    record {
      in_range = omega arith;
      same = fewer (at + 8) c.args.one.now c.args.other.now more (c.lesser-both.result - 8) (omega (arith, c.if-last-at-lt8.true));
    }

pub loop-both-preserved : goal.loop-both-preserved
loop-both-preserved c =
    let at : ℕ = c.loop-both.at in
    let far : at ≤ c.lesser-both.result - 8 = c.loop-both.invariant.in_range in
    record {
      in_range = omega (arith, c.if-last-at-lt8.false, far);
      same = word_passed at c.args.one.now c.args.other.now c.loop-both.invariant.same (λ k. (c.type_inv.one k).fits) (λ k. (c.type_inv.other k).fits)
          c.word-x.result c.word-y.result c.word-x.ensures c.word-y.ensures c.if-x-y.false
          (omega (arith, far, c.lesser-both.ensures, c.if-both-lt8.false)) (omega (arith, far, c.lesser-both.ensures, c.if-both-lt8.false));
    }
