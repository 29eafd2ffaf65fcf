use Rattle.std.proofs.Common.{◌≡◌, ℕ, Result, inr, ap, sym, subst, ◌∙◌}
use Rattle.rollout.specs.Advance.{AdvanceStep}
use Rattle.rollout.specs.declared.advanced.Advanced.{Advanced}
use Rattle.rollout.specs.declared.advanced.AdvanceFault.{AdvanceFault}
use Rattle.handles.specs.Proposals.{fork_of}
use Rattle.handles.specs.State.{State, opened}
use Rattle.operator_calls.proofs.dues.due_world.Goals as goal

-- the act, in the fork
in_fork :
    (world fork new : State) (moment pieces limit : ℕ) (advanced : Result Advanced AdvanceFault)
    → fork ≡ fork_of world → AdvanceStep fork moment pieces limit advanced new → AdvanceStep (fork_of world) moment pieces limit advanced new
in_fork world fork new moment pieces limit advanced is step = subst (λ (s : State). AdvanceStep s moment pieces limit advanced new) is step

pub returns-in_default-due_entry_of : goal.returns-in_default-due_entry_of
returns-in_default-due_entry_of c = inr (
  c.advance-advanced.new.world,
  c.advance-advanced.result,
  in_fork c.args.world.now c.open_at-fork.result c.advance-advanced.new.world c.args.moment c.args.pieces c.args.limit c.advance-advanced.result
      (c.open_at-fork.ensures ∙ ap opened c.in-Ok.ensures) c.advance-advanced.ensures.step,
  sym c.in_default-due_entry_of.ensures,
  c.outcome_of.ensures,
)

pub returns-in-Ok-entry_coded : goal.returns-in-Ok-entry_coded
returns-in-Ok-entry_coded c = (
  c.advance-advanced.new.world,
  c.advance-advanced.result,
  c.in-Some.entry.now,
  in_fork c.args.world.now c.open_at-fork.result c.advance-advanced.new.world c.args.moment c.args.pieces c.args.limit c.advance-advanced.result
      (c.open_at-fork.ensures ∙ ap opened c.in-Ok.ensures) c.advance-advanced.ensures.step,
  sym c.in-Some.ensures,
  c.in-Ok-entry_coded.ensures,
)
