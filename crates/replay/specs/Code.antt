-- Cited by the definitions of world/Code.
-- How an opening is distinguished from another.
use Rattle.std.specs.Prelude.{ℕ, refl}
use Rattle.std.specs.Coded.{Coded, code_by, coded×, coded_ℕ}
use Rattle.schema_version.specs.Version.{Version}
use Rattle.schema_version.specs.Held.{version_code}
use Rattle.replay.specs.Replay.{Opening}

abbrev pub opening_code : Coded Opening
opening_code =
    code_by (ℕ × Version) (coded× coded_ℕ version_code)
    (λ o. (o.length, o.schema))
    (λ t. record { length = t.0; schema = t.1 })
    (λ _. refl)
