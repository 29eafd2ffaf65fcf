-- Cited by the contracts of schema, lease_schema and of what they call.
-- A version of the schema by its code.
use Rattle.std.specs.Prelude.{◌≡◌, ℕ, ℤ, List, Result, Ok, Err}
use Rattle.checkpoint_code.specs.Head.{schema_parts}
use Rattle.entry_code.specs.Records.{schema_parts_code}
use Rattle.schema_version.specs.Version.{Version}
use Rattle.typed_calls.specs.Statuses.{out_of_memory}

-- the code of the version, unless memory ran out
abbrev pub CodesSchema : Version → Result (List ℕ) ℤ → Type 0
CodesSchema version (Ok code) = code ≡ schema_parts_code (schema_parts version)
CodesSchema version (Err status) = status ≡ out_of_memory
