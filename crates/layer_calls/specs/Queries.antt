-- Cited by the contracts of ranges, row_ranges, rows and of what they call.
-- Queries over a store of which only ranges are read.
use Rattle.std.specs.Prelude.{◌≡◌, ℕ, ◌⊎◌, Ok, Err}
use Rattle.entry_code.specs.Code.{rows_code}
use Rattle.entry_code.specs.Parts.{pairs_code}
use Rattle.element_state.specs.Consistent.{IsConsistent}
use Rattle.element_state.specs.Visible.{visible_rows}
use Rattle.row_ask.specs.Remaining.{remaining_of}
use Rattle.row_ask.specs.Whole.{ranges_for, with_index, IsAllRead}
use Rattle.row_ask.specs.declared.remaining.Remaining.{Remaining}
use Rattle.row_ask.specs.declared.remaining.Remaining.TheVariants as remaining
use Rattle.row_map.specs.Rows.{Pairs, Rows}
use Rattle.row_query.specs.Answer.{plain_answer}
use Rattle.row_query.specs.Refused.{IsRefused, IsSound}
use Rattle.row_query.specs.declared.fault.QueryFault.{QueryFault}
use Rattle.row_query.specs.declared.query.Query.{Query}
use Rattle.schema_version.specs.Version.{Version}
use Rattle.handles.specs.TypedQueries.{fault_outcome}
use Rattle.handles.specs.Statuses.{out_of_memory}
use Rattle.layer_calls.specs.Given.{alone, Answer}
use Rattle.layer_calls.specs.declared.outcome.LayerOutcome.{LayerOutcome}

-- what a fault of the query is reported as
abbrev pub query_refusal : QueryFault → LayerOutcome
query_refusal fault = record { status = (fault_outcome fault).status; column = (fault_outcome fault).column; number = 0; length = 0 }

-- by a key, by an index, or by a walk
abbrev pub path_number : Remaining → ℕ
path_number (remaining.Rows keys) = 0
path_number (remaining.Index range) = 1
path_number (remaining.Scan low) = 2

-- the query has this fault, or memory ran out
abbrev pub IsQueryRefusal : Version → Query → LayerOutcome → Type 0
IsQueryRefusal version query outcome = (outcome ≡ alone out_of_memory) ⊎ ((fault : QueryFault) × IsRefused version query fault × (outcome ≡ query_refusal fault))

-- the ranges that are still to be read, with the path
abbrev pub CodesRanges : ℕ → Remaining → Answer → Type 0
CodesRanges table rest (Ok reply) = (reply.code ≡ pairs_code (ranges_for table rest)) × (reply.number ≡ path_number rest)
CodesRanges table rest (Err outcome) = outcome ≡ alone out_of_memory

-- those that the query reads first
abbrev pub Asks : Version → Query → Answer → Type 0
Asks version query (Ok reply) = IsSound version query × CodesRanges query.table (remaining_of version query) (Ok reply)
Asks version query (Err outcome) = IsQueryRefusal version query outcome

-- and those of the rows in what was read of its index
abbrev pub AsksRows : Version → Query → Pairs → Answer → Type 0
AsksRows version query read (Ok reply) = IsSound version query × CodesRanges query.table (with_index read (remaining_of version query)) (Ok reply)
AsksRows version query read (Err outcome) = IsQueryRefusal version query outcome

-- of each store, consistent with the version, of which all that the query needs was read: the plain answer over its rows
abbrev pub Answers : Version → Query → Pairs → Answer → Type 0
Answers version query read (Ok reply) =
    IsSound version query × (reply.number ≡ 0)
    × ((rows : Rows) (store : Pairs) → IsConsistent version rows store → IsAllRead store read query (remaining_of version query) → reply.code ≡ rows_code (plain_answer (visible_rows version rows) query))
Answers version query read (Err outcome) = IsQueryRefusal version query outcome
