use Rattle.std.proofs.Common.{◌≡◌, ◌∙◌, ◌+◌, ◌-◌, ◌*◌, ◌^◌, ◌%◌, ℕ, drop, length, ap, arith, length-drop, drop-drop}
use Rattle.byte_map.specs.Numbers.{word}
use Rattle.byte_map.proofs.Numbers.{shifted, bytes_behind}
use Rattle.page_map.proofs.page.word.Goals as goal

pub returns-then-len-ge8 : goal.returns-then-len-ge8
returns-then-len-ge8 c =
    let key = c.args.key.now in
    let front : ℕ = length key - 8 in
    let over : ℕ = 8 - (length key - c.args.at) in
    let sum : front + over ≡ c.args.at = omega (arith, c.if-len-at.false, c.if-len-at-ge8.false, c.if-len-ge8.true) in
    ap (λ (n : ℕ). (n * 2 ^ (8 * over)) % 18446744073709551616) c.word-then-len-ge8.ensures
    ∙ shifted over (drop front key) (bytes_behind front key (λ k. (c.type_inv.key k).fits)) (omega (arith, length-drop front key, c.if-len-ge8.true)) (omega (arith, c.if-len-at.false))
    ∙ ap word (drop-drop over front key ∙ ap (λ (n : ℕ). drop n key) sum)
