use Rattle.std.proofs.Common.{◌<◌, ◌^◌, ℕ, subst}
use Rattle.record_code.proofs.Storable.{known_version}
use Rattle.record_code.proofs.TxnFits.{txn_fit, always}
use Rattle.record_code.proofs.draft.txn_bytes_under.Goals as goal

pub returns-in-None-clause-fit : goal.returns-in-None-clause-fit
returns-in-None-clause-fit c =
    let number = subst (λ (n : ℕ). n < 2 ^ 64) c.number.ensures c.number.type_inv in
    always c.code_with.result (txn_fit c.args.txn.now number (known_version _ c.requires.known))

pub returns-in_ok-clone-in-Some-clause-fit : goal.returns-in_ok-clone-in-Some-clause-fit
returns-in_ok-clone-in-Some-clause-fit c =
    let number = subst (λ (n : ℕ). n < 2 ^ 64) c.number.ensures c.number.type_inv in
    always c.code_with-in-Some.result (txn_fit c.args.txn.now number (known_version _ c.requires.known))
