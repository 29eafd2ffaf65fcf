-- Cited by the contracts of cagzhomul_session_open, cagzhomul_session_attach, cagzhomul_reply_to, cagzhomul_reply_from and of what they call.
-- A session by lines, whose world is in a handle of its own.
use Rattle.std.specs.Prelude.{◌≡◌, ℕ, ◌⊎◌, List, [], drop, length, Option, Some, None, Bool, ℤ, String, string_bytes, IsUtf8}
use Rattle.std.specs.Bool.{MatchBool}
use Rattle.std.specs.FinMap as map
use Rattle.std.specs.Global.{Global}
use Rattle.typed_calls.specs.Opened.{Opened}
use Rattle.typed_calls.specs.Replies.{Reply}
use Rattle.typed_calls.specs.Session.{Session}
use Rattle.typed_calls.specs.SessionVariants.TheVariants as whole
use Rattle.typed_calls.specs.State.{State}
use Rattle.typed_calls.specs.Statuses.{ok, closed, already_open, not_utf8, out_of_memory, too_far}
use Rattle.typed_calls.specs.declared.bounded.BoundedWorld.{BoundedWorld}
use Rattle.handles.specs.Calls.{laid, Refuses}
use Rattle.handles.specs.Moments.{any_jump, is_line_too_far}
use Rattle.handles.specs.Replies.{reply_status}
use Rattle.handles.specs.declared.engine.Engine.{Engine}
use Rattle.handles.specs.declared.engine.Engine.TheVariants as engine
use Rattle.handles.specs.declared.engine.Names.{Names}
use Rattle.handles.specs.declared.engine.Script.{Script}
use Rattle.handles.specs.declared.engine.Script.TheVariants as of_script
use Rattle.handles.specs.declared.outcome.Outcome.{Outcome}

-- ---- open_session, attach

-- no leases, nothing prepared and no plan
abbrev pub no_names : Names
no_names = record { leases = map.empty; pending = map.empty; plan = [] }

-- a session with this script, and no reply yet
abbrev pub IsFresh : Script → Option Engine → Type 0
IsFresh kept None = ⊥
IsFresh kept (Some (engine.Session c)) = (c.script ≡ kept) × (string_bytes c.reply ≡ [])
IsFresh kept (Some other) = ⊥

abbrev pub OpensSession : Script → Option Engine → ℤ → Option Engine → Type 0
OpensSession kept (Some e) status new = (status ≡ already_open) × (new ≡ Some e)
OpensSession kept None status new = ((status ≡ ok) × IsFresh kept new) ⊎ ((status ≡ out_of_memory) × (new ≡ None))

-- ---- the parts of a session

-- the session that these names and a world make together
abbrev pub opened_with : Names → State → Opened
opened_with names world = record { world = world; leases = names.leases; pending = names.pending; plan = names.plan }

-- what a session keeps besides its world
abbrev pub script_of : Session → Script
script_of (whole.Declaring declared) = of_script.Declaring declared
script_of (whole.Running opened) = of_script.Running (record { leases = opened.leases; pending = opened.pending; plan = opened.plan })

-- and what the handle of its world holds: nothing before `open`
abbrev pub world_of : ℕ → Session → Option Engine
world_of furthest (whole.Declaring declared) = None
world_of furthest (whole.Running opened) = Some (engine.World (record { world = opened.world; furthest = furthest }))

-- ---- reply_to

-- memory ran out over the line, and both handles are closed
abbrev pub RunsOut : List ℕ → Outcome → List ℕ → Option Engine → Option Engine → Type 0
RunsOut out outcome out' session world = Refuses out_of_memory out outcome out' × (session ≡ None) × (world ≡ None)

-- the line has its reply, which is kept and lies in the caller's bytes, and the handles hold the parts of the session that it leaves
abbrev pub Answers : ℕ → Session → List ℕ → List ℕ → Outcome → List ℕ → Option Engine → Option Engine → Type 0
Answers furthest old line out outcome out' session world =
    RunsOut out outcome out' session world
    ⊎ ((new : Session) × (reply : String Global) × (bad : Bool) × Reply old line (string_bytes reply) bad new
    × (outcome ≡ record { status = reply_status bad; length = length (string_bytes reply) }) × (out' ≡ laid out (string_bytes reply))
    × (session ≡ Some (engine.Session (record { script = script_of new; reply = reply }))) × (world ≡ world_of furthest new))

-- the line is refused, and both handles stay
abbrev pub Declines : ℤ → Script → String Global → Option Engine → List ℕ → Outcome → List ℕ → Option Engine → Option Engine → Type 0
Declines status kept reply held out outcome out' session world =
    Refuses status out outcome out' × (session ≡ Some (engine.Session (record { script = kept; reply = reply }))) × (world ≡ held)

-- a line that is UTF-8, after `open`: its moment is too far, or it is answered in the world
abbrev pub RepliesIn : Names → String Global → BoundedWorld → List ℕ → List ℕ → Outcome → List ℕ → Option Engine → Option Engine → Type 0
RepliesIn names reply bounded line out outcome out' session world =
    RunsOut out outcome out' session world
    ⊎ MatchBool (is_line_too_far bounded line) (Declines too_far (of_script.Running names) reply (Some (engine.World bounded)) out outcome out' session world)
    (Answers bounded.furthest (whole.Running (opened_with names bounded.world)) line out outcome out' session world)

-- a line of a script, and the handle of the world: closed before `open`, which leaves a world there, and with a world after it
abbrev pub RepliesWith : Script → String Global → Option Engine → List ℕ → List ℕ → Outcome → List ℕ → Option Engine → Option Engine → Type 0
RepliesWith (of_script.Declaring declared) reply (Some e) line out outcome out' session world =
    Declines already_open (of_script.Declaring declared) reply (Some e) out outcome out' session world
RepliesWith (of_script.Declaring declared) reply None line out outcome out' session world =
    (¬ (IsUtf8 line) × Declines not_utf8 (of_script.Declaring declared) reply None out outcome out' session world)
    ⊎ (IsUtf8 line × Answers any_jump (whole.Declaring declared) line out outcome out' session world)
RepliesWith (of_script.Running names) reply None line out outcome out' session world =
    Declines closed (of_script.Running names) reply None out outcome out' session world
RepliesWith (of_script.Running names) reply (Some (engine.World bounded)) line out outcome out' session world =
    (¬ (IsUtf8 line) × Declines not_utf8 (of_script.Running names) reply (Some (engine.World bounded)) out outcome out' session world)
    ⊎ (IsUtf8 line × RepliesIn names reply bounded line out outcome out' session world)
RepliesWith (of_script.Running names) reply (Some other) line out outcome out' session world =
    Declines closed (of_script.Running names) reply (Some other) out outcome out' session world

abbrev pub RepliesEngine : Engine → Option Engine → List ℕ → List ℕ → Outcome → List ℕ → Option Engine → Option Engine → Type 0
RepliesEngine (engine.Session c) held line out outcome out' session world = RepliesWith c.script c.reply held line out outcome out' session world
RepliesEngine other held line out outcome out' session world = Refuses closed out outcome out' × (session ≡ Some other) × (world ≡ held)

abbrev pub RepliesTo : Option Engine → Option Engine → List ℕ → List ℕ → Outcome → List ℕ → Option Engine → Option Engine → Type 0
RepliesTo None held line out outcome out' session world = Refuses closed out outcome out' × (session ≡ None) × (world ≡ held)
RepliesTo (Some e) held line out outcome out' session world = RepliesEngine e held line out outcome out' session world

-- ---- reply_from

-- the last reply from this byte on lies in the caller's bytes
abbrev pub RepliesFrom : Option Engine → ℕ → List ℕ → Outcome → List ℕ → Type 0
RepliesFrom None from out outcome out' = Refuses closed out outcome out'
RepliesFrom (Some (engine.Session c)) from out outcome out' =
    (outcome ≡ record { status = ok; length = length (string_bytes c.reply) }) × (out' ≡ laid out (drop from (string_bytes c.reply)))
RepliesFrom (Some other) from out outcome out' = Refuses closed out outcome out'
