-- The steps of a line, on what the handles of its session and of its world hold.
use Rattle.std.proofs.Common.{◌≡◌, ℕ, Bool, false, List, length, Option, Some, None, is_some, String, string_bytes, inr, refl, sym, subst, ◌∙◌, true≢false}
use Rattle.std.specs.Prelude.{IsUtf8}
use Rattle.std.specs.Bool.{MatchBool}
use Rattle.std.specs.Global.{Global}
use Rattle.typed_calls.specs.Replies.{Reply}
use Rattle.typed_calls.specs.Session.{Session}
use Rattle.typed_calls.specs.SessionVariants.TheVariants as whole
use Rattle.typed_calls.specs.Statuses.{too_far}
use Rattle.typed_calls.specs.declared.bounded.BoundedWorld.{BoundedWorld}
use Rattle.handles.specs.Calls.{laid}
use Rattle.handles.specs.Moments.{any_jump, is_line_too_far}
use Rattle.handles.specs.Replies.{reply_status}
use Rattle.handles.specs.Sessions.{opened_with, script_of, world_of, Answers, Declines, RepliesWith}
use Rattle.handles.specs.declared.engine.Engine.{Engine}
use Rattle.handles.specs.declared.engine.Engine.TheVariants as engine
use Rattle.handles.specs.declared.engine.Names.{Names}
use Rattle.handles.specs.declared.engine.Script.{Script}
use Rattle.handles.specs.declared.engine.Script.TheVariants as of_script
use Rattle.handles.specs.declared.outcome.Outcome.{Outcome}

-- a line that has its reply
pub has_reply :
    (furthest : ℕ) (old new : Session) (line out out' text : List ℕ) (reply : String Global) (bad : Bool) (outcome : Outcome) (kept : Script) (world : Option Engine)
    → Reply old line (string_bytes reply) bad new → text ≡ string_bytes reply → outcome ≡ record { status = reply_status bad; length = length text } → out' ≡ laid out text
    → kept ≡ script_of new → world ≡ world_of furthest new
    → Answers furthest old line out outcome out' (Some (engine.Session (record { script = kept; reply = reply }))) world
has_reply furthest old new line out out' text reply bad outcome kept world replies is told lies same left =
    rw told (rw lies (rw same (rw left (rw is (inr (new, reply, bad, replies, refl, refl, refl, refl))))))

-- a line before `open`, with a closed handle for its world
pub before :
    (declared : _) (reply : String Global) (held : Option Engine) (shows : Bool) (line text out out' : List ℕ) (outcome : Outcome) (session world : Option Engine)
    → shows ≡ is_some held → shows ≡ false → (text ≡ line) × IsUtf8 line → Answers any_jump (whole.Declaring declared) text out outcome out' session world
    → RepliesWith (of_script.Declaring declared) reply held line out outcome out' session world
before declared reply None shows line text out out' outcome session world is shut utf8 answers =
    inr (utf8.1, subst (λ (t : List ℕ). Answers any_jump (whole.Declaring declared) t out outcome out' session world) utf8.0 answers)
before declared reply (Some e) shows line text out out' outcome session world is shut utf8 answers = absurd (true≢false (sym is ∙ shut))

-- a line after `open` whose moment is not too far
pub after :
    (names : Names) (reply : String Global) (bounded : BoundedWorld) (far : Bool) (line text out out' : List ℕ) (outcome : Outcome) (session world : Option Engine)
    → far ≡ is_line_too_far bounded line → far ≡ false → (text ≡ line) × IsUtf8 line
    → Answers bounded.furthest (whole.Running (opened_with names bounded.world)) text out outcome out' session world
    → RepliesWith (of_script.Running names) reply (Some (engine.World bounded)) line out outcome out' session world
after names reply bounded far line text out out' outcome session world is near utf8 answers =
    inr (
      utf8.1,
      inr (
          subst
          (λ (b : Bool). MatchBool b (Declines too_far (of_script.Running names) reply (Some (engine.World bounded)) out outcome out' session world)
          (Answers bounded.furthest (whole.Running (opened_with names bounded.world)) line out outcome out' session world))
          (sym near ∙ is)
          (subst (λ (t : List ℕ). Answers bounded.furthest (whole.Running (opened_with names bounded.world)) t out outcome out' session world) utf8.0 answers)
          ),
    )
