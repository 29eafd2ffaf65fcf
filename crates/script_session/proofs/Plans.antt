-- A plan that is kept, and the next step of it.
use Rattle.std.proofs.Common.{◌≡◌, ◌≤◌, ℕ, List, [], ◌∷◌, length, get_or, Result, Bool, false, subst, ap, sym, ◌∙◌, arith}
use Rattle.std.specs.Prelude.{codes}
use Rattle.change_plan.specs.declared.change.Change.{Change}
use Rattle.change_plan.specs.declared.fault.PlanFault.{PlanFault}
use Rattle.change_plan.specs.declared.least_plan.LeastPlan.{LeastPlan}
use Rattle.script_grammar.specs.declared.named.NamedChange.{NamedChange}
use Rattle.script_names.specs.Changes.{changes_of}
use Rattle.schema_version.specs.Version.{Version}
use Rattle.schema_version.specs.declared.step.Move.{Move}
use Rattle.script_replies.specs.Publish.{PublishStep}
use Rattle.script_replies.specs.State.{State, facts_of}
use Rattle.script_replies.specs.Receipt.{Receipt}
use Rattle.script_replies.specs.PublishFault.{PublishFault}
use Rattle.script_replies.specs.Plans.{planned_text}
use Rattle.script_session.specs.Plan.{IsPlanOf, kept_plan, left_of}
use Rattle.script_replies.specs.Publications.{published_text}
use Rattle.script_session.specs.Answer.{Planned, NextOf}
use Rattle.script_session.specs.Session.{Session}
use Rattle.script_replies.specs.Texts.{line, refused}
use Rattle.script_session.specs.declared.session.Opened.{Opened}
use Rattle.script_session.specs.declared.session.Session.TheVariants.{Running}

-- a plan of changes that were looked up in the newest version
pub planned : (old : Opened) (changing : List NamedChange) (schema : Version) (changes : List Change) (result : Result LeastPlan PlanFault) (text : List ℕ) (bad : Bool) (next : Opened)
    → schema ≡ (facts_of old.world).newest → changes ≡ changes_of schema changing → IsPlanOf schema changes result → text ≡ planned_text schema result → bad ≡ false
    → next ≡ record old { plan = kept_plan old.plan result }
    → Planned old (changes_of (facts_of old.world).newest changing) text bad (Running next)
planned old changing schema changes result text bad next newest named made reported good kept =
    subst (λ (v : Version). Planned old (changes_of v changing) text bad (Running next)) newest (
      result,
      subst (λ (v : Version). IsPlanOf v (changes_of schema changing) result) newest (subst (λ (l : List Change). IsPlanOf schema l result) named made),
      reported ∙ ap (λ (v : Version). planned_text v result) newest,
      good,
      ap Running kept,
    )

-- the first of the steps that are left
first_of : (slice : List (List Move)) (step : List Move) → 1 ≤ length slice → step ≡ get_or slice 0 step → (rest : List (List Move)) × (slice ≡ step ∷ rest)
first_of [] step some is = absurd (omega (arith, some))
first_of (x ∷ xs) step some is = (xs, ap (λ (y : List Move). y ∷ xs) (sym is))

pub next_step : (old : Opened) (slice : List (List Move)) (step : List Move) (moment : ℕ) (result : Result (ℕ × Receipt) PublishFault) (world : State) (text : List ℕ) (bad : Bool) (next : Opened)
    → slice ≡ old.plan → 1 ≤ length slice → step ≡ get_or slice 0 step → PublishStep old.world moment step result world → text ≡ line (published_text result) → bad ≡ false
    → next ≡ record old { world = world; plan = left_of old.plan result }
    → NextOf old old.plan moment text bad (Running next)
next_step old slice step moment result world text bad next same some is done reported good left =
    let first = first_of slice step some is in
    subst (λ (p : List (List Move)). NextOf old p moment text bad (Running next)) (sym first.1 ∙ same)
    (result, world, done, (reported, good), ap Running left)

pub no_step : (old : Opened) (moment : ℕ) (text : List ℕ) (bad : Bool) (new : Session) → old.plan ≡ [] → text ≡ line (refused (codes "NoPlan")) → bad ≡ false → new ≡ Running old → NextOf old old.plan moment text bad new
no_step old moment text bad new is reported good next = subst (λ (p : List (List Move)). NextOf old p moment text bad new) (sym is) ((reported, good), next)
