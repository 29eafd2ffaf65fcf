-- Cited by the contracts of open and of what it calls.
-- A world that is opened by the code of its opening.
use Rattle.std.specs.Prelude.{◌≡◌, ℕ, ◌⊎◌, ℤ, List, Result, Ok, Err}
use Rattle.entry_code.specs.Code.{opening_code}
use Rattle.entry_code.specs.Known.{IsOpening}
use Rattle.schema_version.specs.declared.table.TableDef.{TableDef}
use Rattle.script_session.specs.State.{State}
use Rattle.script_session.specs.Calls.{OpenStep}
use Rattle.script_session.specs.Config.{Config}
use Rattle.script_session.specs.OpenFault.{OpenFault}
use Rattle.script_session.specs.OpenFault.TheVariants.{BadTable, BadLength, Memory}
use Rattle.typed_calls.specs.Bounded.{IsNoCode}
use Rattle.typed_calls.specs.Statuses.{bad_table, bad_length, out_of_memory, bad_code}
use Rattle.typed_calls.specs.declared.bounded.BoundedWorld.{BoundedWorld}

abbrev pub open_status : OpenFault → ℤ
open_status BadTable = bad_table
open_status BadLength = bad_length
open_status Memory = out_of_memory

-- the world that `World::open` gives with a lease length and tables, or the status of its refusal
abbrev pub config_of : ℕ × List TableDef → Config
config_of opening = record { length = opening.0; tables = opening.1 }

abbrev pub OpensFor : ℕ × List TableDef → Result State ℤ → Type 0
OpensFor opening (Ok world) = OpenStep (config_of opening) (Ok world)
OpensFor opening (Err status) = (fault : OpenFault) × OpenStep (config_of opening) (Err fault) × (status ≡ open_status fault)

-- the bytes are the code of an opening, and this comes of it
abbrev pub OpensCode : List ℕ → Result State ℤ → Type 0
OpensCode code answer = (opening : ℕ × List TableDef) × IsOpening opening × (code ≡ opening_code opening) × OpensFor opening answer

-- or of none, or memory ran out before they were read
abbrev pub OpensWorld : List ℕ → Result State ℤ → Type 0
OpensWorld code answer = ((answer ≡ Err bad_code) × IsNoCode IsOpening opening_code code) ⊎ (answer ≡ Err out_of_memory) ⊎ OpensCode code answer

-- the world, with this furthest jump
abbrev pub OpensBounded : List ℕ → ℕ → Result BoundedWorld ℤ → Type 0
OpensBounded code furthest (Ok bounded) = OpensWorld code (Ok bounded.world) × (bounded.furthest ≡ furthest)
OpensBounded code furthest (Err status) = OpensWorld code (Err status)
