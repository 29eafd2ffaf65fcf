-- Cited by the contracts of open and of what it calls.
-- The draft that opens a store with declared tables.
use Rattle.std.specs.Prelude.{◌≡◌, ◌⊎◌, List, Ok, Err}
use Rattle.schema_version.specs.Declare.{declared, IsLawful}
use Rattle.schema_version.specs.declared.table.TableDef.{TableDef}
use Rattle.drafts.specs.declared.record.Record.TheVariants.{Version as OfVersion}
use Rattle.record_code.specs.Drafts.{draft_code, open_draft}
use Rattle.record_code.specs.Records.{HasRecord}
use Rattle.handles.specs.Statuses.{bad_table, out_of_memory}
use Rattle.layer_calls.specs.Given.{alone, Answer, Replies}

-- version 1 with these tables, if they may be declared; its record has a code, as the theorem on drafts in bytes asks
abbrev pub OpensWith : List TableDef → Answer → Type 0
OpensWith tables (Ok reply) = IsLawful tables × HasRecord (OfVersion (declared tables)) × Replies (draft_code (open_draft (declared tables))) reply
OpensWith tables (Err outcome) = ((outcome ≡ alone out_of_memory) × IsLawful tables) ⊎ ((outcome ≡ alone bad_table) × (¬ (IsLawful tables)))
