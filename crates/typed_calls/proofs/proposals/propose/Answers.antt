use Rattle.std.proofs.Common.{◌≡◌, ℕ, List, Ok, Err, inr, max, ap, sym, subst, ◌∙◌}
use Rattle.entry_code.specs.Code.{entry_code}
use Rattle.replay.specs.declared.entry.What.TheVariants.{Txn}
use Rattle.row_write.specs.Made.{PreparedTxn}
use Rattle.script_session.specs.State.{State, opened}
use Rattle.script_session.specs.Calls.{CommitStep, effective_moment}
use Rattle.script_session.specs.Committed.{Committed}
use Rattle.script_session.specs.Committed.TheVariants.{Done, Refused}
use Rattle.typed_calls.specs.Commit.{CommitsWorld}
use Rattle.typed_calls.specs.Proposals.{fork_of, ProposesDone, ProposesWorld}
use Rattle.typed_calls.specs.declared.refusals.TxnRefusal.{TxnRefusal}
use Rattle.typed_calls.proofs.proposals.propose.Goals as goal

-- a commit in the fork adds the entry of the transaction at the moment that counts
proposes :
    (world fork new : State) (moment now : ℕ) (prepared : PreparedTxn) (done : Committed) (code : List ℕ)
    → fork ≡ fork_of world → now ≡ effective_moment world moment → code ≡ entry_code (record { moment = now; what = Txn prepared.lease prepared.ops })
    → CommitStep fork moment prepared (Ok done) new → ProposesDone (fork_of world) moment prepared done code
proposes world fork new moment now prepared (Done receipt) code is at coded step =
    let here : CommitStep (fork_of world) moment prepared (Ok (Done receipt)) new = subst (λ (s : State). CommitStep s moment prepared (Ok (Done receipt)) new) is step in (
      new,
      here,
      coded ∙ ap (λ (n : ℕ). entry_code (record { moment = n; what = Txn prepared.lease prepared.ops })) at ∙ ap entry_code (sym here.2.entry),
    )
proposes world fork new moment now prepared (Refused op why) code is at coded step =
    (new, subst (λ (s : State). CommitStep s moment prepared (Ok (Refused op why)) new) is step)

proposal_refused :
    (world fork new : State) (moment : ℕ) (prepared : PreparedTxn) (refusal : TxnRefusal × PreparedTxn)
    → fork ≡ fork_of world → CommitsWorld fork moment prepared (Err refusal) new → ProposesWorld world moment prepared (Err refusal)
proposal_refused world fork new moment prepared refusal is refused = inr (new, subst (λ (s : State). CommitsWorld s moment prepared (Err refusal) new) is refused)

pub returns-in-Ok-commit_to : goal.returns-in-Ok-commit_to
returns-in-Ok-commit_to c =
    proposes c.args.world.now c.open_at-fork.result c.commit_to.new.world c.args.moment c.max.result c.args.prepared c.in-Ok-commit_to.done c.in-Ok-entry_at.code
    (c.open_at-fork.ensures ∙ ap opened c.in-Ok.ensures) (c.max.ensures ∙ ap (max c.args.moment) c.moment.ensures) c.in-Ok-entry_at.ensures c.in-Ok-commit_to.ensures

pub returns-in-Err : goal.returns-in-Err
returns-in-Err c =
    proposal_refused c.args.world.now c.open_at-fork.result c.commit_to.new.world c.args.moment c.args.prepared c.in-Err.refusal
    (c.open_at-fork.ensures ∙ ap opened c.in-Ok.ensures) c.in-Err.ensures
