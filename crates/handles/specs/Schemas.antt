-- Cited by the contracts of cagzhomul_schema, cagzhomul_lease_schema and of what they call.
-- A version of the schema by its code, in a handle of its own.
use Rattle.std.specs.Prelude.{◌≡◌, ℕ, ◌⊎◌, ℤ, List, Option, Some, None, Ok, Err}
use Rattle.schema_version.specs.Version.{Version}
use Rattle.typed_calls.specs.Schemas.{CodesSchema}
use Rattle.typed_calls.specs.State.{facts_of}
use Rattle.typed_calls.specs.Statuses.{closed, already_open}
use Rattle.handles.specs.declared.engine.Engine.{Engine}
use Rattle.handles.specs.declared.engine.Engine.TheVariants as engine
use Rattle.handles.specs.Handles.{Fills}

-- the code of the version, or memory ran out
abbrev pub SchemaInto : Version → ℤ → Option Engine → Type 0
SchemaInto version status bytes =
    ((code : List ℕ) × CodesSchema version (Ok code) × Fills (engine.Bytes code) status bytes)
    ⊎ (CodesSchema version (Err status) × (bytes ≡ None))

-- ---- schema

-- of the newest version of a world
abbrev pub SchemaOf : Option Engine → ℤ → Option Engine → Type 0
SchemaOf None status bytes = (status ≡ closed) × (bytes ≡ None)
SchemaOf (Some (engine.World bounded)) status bytes = SchemaInto (facts_of bounded.world).newest status bytes
SchemaOf (Some other) status bytes = (status ≡ closed) × (bytes ≡ None)

-- into a closed handle
abbrev pub SchemaTo : Option Engine → Option Engine → ℤ → Option Engine → Type 0
SchemaTo world (Some e) status bytes = (status ≡ already_open) × (bytes ≡ Some e)
SchemaTo world None status bytes = SchemaOf world status bytes

-- ---- lease_schema

-- of the version of a lease
abbrev pub LeaseSchemaOf : Option Engine → ℤ → Option Engine → Type 0
LeaseSchemaOf None status bytes = (status ≡ closed) × (bytes ≡ None)
LeaseSchemaOf (Some (engine.Lease held)) status bytes = SchemaInto held.schema status bytes
LeaseSchemaOf (Some other) status bytes = (status ≡ closed) × (bytes ≡ None)

-- into a closed handle
abbrev pub LeaseSchemaTo : Option Engine → Option Engine → ℤ → Option Engine → Type 0
LeaseSchemaTo lease (Some e) status bytes = (status ≡ already_open) × (bytes ≡ Some e)
LeaseSchemaTo lease None status bytes = LeaseSchemaOf lease status bytes
