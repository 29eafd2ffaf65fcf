use Rattle.std.proofs.Common.{◌≡◌, ◌∙◌, take, refl, arith}
use Rattle.byte_map.proofs.Numbers.{word_apart, word_passed}
use Rattle.byte_map.proofs.words.compare_by.Goals as goal

pub returns-then-first-words : goal.returns-then-first-words
returns-then-first-words c =
    c.by_number.ensures
    ∙ word_apart 0 c.args.one.now c.args.other.now refl (λ k. (c.type_inv.one k).fits) (λ k. (c.type_inv.other k).fits)
    c.word-first.result c.args.words.0 c.word-first.ensures c.requires.first c.if-first-words.true

pub returns-then-second-words : goal.returns-then-second-words
returns-then-second-words c =
    let eight : take 8 c.args.one.now ≡ take 8 c.args.other.now =
    word_passed 0 c.args.one.now c.args.other.now refl (λ k. (c.type_inv.one k).fits) (λ k. (c.type_inv.other k).fits)
    c.word-first.result c.args.words.0 c.word-first.ensures c.requires.first c.if-first-words.false (omega (arith, c.if-one-lt16.false)) (omega (arith, c.if-other-lt16.false)) in
    c.by_number-then-second-words.ensures
    ∙ word_apart 8 c.args.one.now c.args.other.now eight (λ k. (c.type_inv.one k).fits) (λ k. (c.type_inv.other k).fits)
    c.word-second.result c.args.words.1 c.word-second.ensures c.requires.second c.if-second-words.true

pub compare_from-requires-clause-same : goal.compare_from-requires-clause-same
compare_from-requires-clause-same c =
    let eight : take 8 c.args.one.now ≡ take 8 c.args.other.now =
    word_passed 0 c.args.one.now c.args.other.now refl (λ k. (c.type_inv.one k).fits) (λ k. (c.type_inv.other k).fits)
    c.word-first.result c.args.words.0 c.word-first.ensures c.requires.first c.if-first-words.false (omega (arith, c.if-one-lt16.false)) (omega (arith, c.if-other-lt16.false)) in
    word_passed 8 c.args.one.now c.args.other.now eight (λ k. (c.type_inv.one k).fits) (λ k. (c.type_inv.other k).fits)
    c.word-second.result c.args.words.1 c.word-second.ensures c.requires.second c.if-second-words.false (omega (arith, c.if-one-lt16.false)) (omega (arith, c.if-other-lt16.false))
