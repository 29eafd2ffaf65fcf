use Rattle.std.proofs.Common.{arith, subst, List, ℕ, ◌∙◌}
use Rattle.entry_code.specs.Code.{query_code}
use Rattle.entry_code.specs.Known.{IsQuery}
use Rattle.entry_code.specs.Read.{IsRead}
use Rattle.keycode.specs.Valid.{IsStorable}
use Rattle.page_code.proofs.Requests.{asked_is}
use Rattle.page_code.proofs.request.read_asked.Goals as goal

pub returns : goal.returns
returns c =
    asked_is c.args.bytes.now (λ i. omega (arith, c.type_inv.bytes i)) c.query_of.result
    (subst (λ (bytes : List ℕ). IsRead (IsQuery IsStorable) query_code bytes c.query_of.result) (c.as_slice.ensures.value ∙ c.in_ok-code.ensures) c.query_of.ensures.read)
