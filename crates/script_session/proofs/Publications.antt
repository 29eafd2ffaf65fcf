-- A publication whose names were looked up in the newest version.
use Rattle.std.proofs.Common.{◌≡◌, ℕ, List, Result, Bool, false, refl, subst, ap, ◌∙◌}
use Rattle.script_grammar.specs.declared.named.NamedMove.{NamedMove}
use Rattle.schema_version.specs.declared.step.Move.{Move}
use Rattle.schema_version.specs.Version.{Version}
use Rattle.script_replies.specs.Receipt.{Receipt}
use Rattle.script_replies.specs.PublishFault.{PublishFault}
use Rattle.script_replies.specs.Publish.{PublishStep}
use Rattle.script_replies.specs.State.{State, facts_of}
use Rattle.script_session.specs.declared.session.Opened.{Opened}
use Rattle.script_session.specs.declared.session.Session.TheVariants.{Running}
use Rattle.script_names.specs.Moves.{step_of}
use Rattle.script_replies.specs.Publications.{published_text}
use Rattle.script_session.specs.Answer.{Published}
use Rattle.script_replies.specs.Texts.{line}

pub published : (old : Opened) (moment : ℕ) (moves : List NamedMove) (schema : Version) (step : List Move) (result : Result (ℕ × Receipt) PublishFault) (world : State) (text : List ℕ) (bad : Bool)
    → schema ≡ (facts_of old.world).newest → step ≡ step_of schema moves → PublishStep old.world moment step result world → text ≡ line (published_text result) → bad ≡ false
    → Published old moment moves text bad (Running (record old { world = world }))
published old moment moves schema step result world text bad newest named done reported good =
    (result, world, subst (λ (s : List Move). PublishStep old.world moment s result world) (named ∙ ap (λ (v : Version). step_of v moves) newest) done, (reported, good), refl)
