use Rattle.std.proofs.Common.{◌≡◌, ◌∙◌, ℕ, List, Some, Bor, ap, subst, sym}
use Rattle.std.specs.Option.{option_map}
use Rattle.prompt.specs.Moment.{IsCutAt, first_word, moment_mark}
use Rattle.prompt.proofs.Cuts.{lacks_mark, cut_at_mark}
use Rattle.prompt.proofs.moment.cut_at_moment.Goals as goal

pub returns-in_err-front : goal.returns-in_err-front
returns-in_err-front c =
    let line = c.args.line.now in
    let mark = c.in_ok-mark.mark.now in
    let parts = option_map {T = Bor (List ℕ) × Bor (List ℕ) × Bor (List ℕ)} {U = List ℕ × (List ℕ × List ℕ)} (λ cut. (cut.0.now, (cut.1.now, cut.2.now))) in
    let is : Some mark ≡ moment_mark (first_word line) = c.in_ok-mark.ensures ∙ ap moment_mark c.first_word.ensures in
    let lacks = lacks_mark mark line (sym c.is_empty.ensures ∙ c.if-is_empty.false) c.in_err-front.ensures.cases in
    subst (λ k. IsCutAt k line (parts c.from_residual-in_err-front.result)) is (subst (λ r. IsCutAt (Some mark) line (parts r)) (sym c.from_residual-in_err-front.ensures) lacks)

pub returns : goal.returns
returns c =
    let line = c.args.line.now in
    let mark = c.in_ok-mark.mark.now in
    let front = c.in_ok-front.front.now in
    let back = c.in_ok-front.back.now in
    let is : Some mark ≡ moment_mark (first_word line) = c.in_ok-mark.ensures ∙ ap moment_mark c.first_word.ensures in
    subst (λ k. IsCutAt k line (Some (front, (mark, back)))) is (cut_at_mark mark line front back (sym c.is_empty.ensures ∙ c.if-is_empty.false) c.in_ok-front.ensures.cases)
