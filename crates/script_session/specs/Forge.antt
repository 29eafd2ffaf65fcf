-- Cited by the definitions of Answer.
-- A lease that is written by hand, whether it was granted or not.
use Rattle.std.specs.Prelude.{◌≡◌, ℕ, List, Bool, unwrap_or, codes}
use Rattle.std.specs.FinMap as map
use Rattle.lease.specs.declared.lease.Lease.{Lease}
use Rattle.schema_version.specs.Version.{Version}
use Rattle.script_replies.specs.State.{State, facts_of, recent}
use Rattle.script_session.specs.declared.session.Opened.{Opened}
use Rattle.script_session.specs.declared.session.Session.TheVariants.{Running}
use Rattle.script_session.specs.Declare.{IsReply}
use Rattle.script_session.specs.Session.{Session}

-- the schema of this version, where it is the newest or the one before, else the newest
abbrev pub schema_or_newest : State → ℕ → Version
schema_or_newest world version = unwrap_or (recent (facts_of world) version) (facts_of world).newest

-- the lease takes the place of the server's old one, and the world stays as it is
abbrev pub Forged : Opened → List ℕ → Lease → List ℕ → Bool → Session → Type 0
Forged old server lease reply bad new =
    IsReply (codes "ok") reply bad × (new ≡ Running (record old { leases = map.insert old.leases server (record { lease = lease; schema = schema_or_newest old.world lease.version }) }))
