use Rattle.std.proofs.Common.{◌≡◌, false, true, refl, sym, ◌∙◌}
use Rattle.replica.proofs.Txns.{unserved, unknown}
use Rattle.replica.proofs.txn.commit_ops.Goals as goal

false_true : false ≡ true → ⊥
false_true e = absurd cc

pub returns-then-not-serves : goal.returns-then-not-serves
returns-then-not-serves c = unserved c.args.world.now c.args.now c.args.lease.now c.args.ops.now (λ v. false_true (sym c.if-not-serves.true ∙ c.serves.ensures.1 v))

pub returns-in-Err : goal.returns-in-Err
returns-in-Err c = unknown c.args.world.now c.args.now c.args.lease.now c.args.ops.now c.in-Err.fault c.in-Err.fault c.requires.later c.lemma_agrees.ensures.kept (c.serves.ensures.0 c.if-not-serves.false) c.in-Err.ensures.none refl
