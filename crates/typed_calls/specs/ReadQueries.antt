-- Cited by the contracts of query_read and of what it calls.
-- Queries of the rows that a transaction read: the code of the row that is answered.
use Rattle.std.specs.Prelude.{◌≡◌, ℕ, ◌⊎◌, List, [], ◌∷◌, Option, Some, None, Result, Ok, Err}
use Rattle.std.specs.FinMap as map
use Rattle.entry_code.specs.Code.{rows_code}
use Rattle.keycode.specs.declared.value.Value.{Value}
use Rattle.row_map.specs.declared.shape.Row.{Row}
use Rattle.row_map.specs.Expect.{View, Holds}
use Rattle.row_map.specs.Rows.{Bytes}
use Rattle.row_query.specs.declared.fault.QueryFault.{QueryFault}
use Rattle.row_query.specs.declared.query.Cond.{Cond}
use Rattle.row_query.specs.declared.query.Cond.TheVariants.{Key, Equal, Between}
use Rattle.row_query.specs.declared.query.Query.{Query}
use Rattle.row_query.specs.Refused.{IsRefused, IsSound}
use Rattle.row_write.specs.Made.{expects}
use Rattle.row_write.specs.Reads.{IsRowKey}
use Rattle.schema_version.specs.Version.{Version}
use Rattle.script_session.specs.Snapshot.{Taken, IsSnapshotAnswer}
use Rattle.typed_calls.specs.Queries.{fault_outcome, query_alone}
use Rattle.typed_calls.specs.Statuses.{bad_code, out_of_memory, view_mismatch}
use Rattle.typed_calls.specs.declared.queries.QueryOutcome.{QueryOutcome}

-- the key that is the only condition
abbrev pub only_key : List Cond → Option (List Value)
only_key [] = None
only_key (Key key ∷ []) = Some key
only_key (Equal column value ∷ []) = None
only_key (Between column low high ∷ []) = None
only_key (first ∷ second ∷ rest) = None

-- each key of the row's pairs was read
abbrev pub IsRowRead : Version → View → ℕ → List Value → Type 0
IsRowRead version view table primary = (key : Bytes) → IsRowKey version table primary key → (value : Option Bytes) × (map.get view key ≡ Some value)

-- the query has no fault, its row was read, and each snapshot under the version answers the same, whose pairs hold what was read
pub record IsReadAnswer (version : Version) (view : View) (query : Query) (key : List Value) (rows : List Row) : Type 0 where
  pub sound : IsSound version query
  pub read : IsRowRead version view query.table key
  pub answered : (taken : Taken) → taken.version ≡ version → Holds (expects view) taken.pairs → IsSnapshotAnswer taken query (Ok rows)

-- the query has a fault, or it has none and its row was not read, or memory ran out
abbrev pub IsReadRefusal : Version → View → Query → List Value → QueryOutcome → Type 0
IsReadRefusal version view query key outcome =
    (outcome ≡ query_alone out_of_memory)
    ⊎ ((fault : QueryFault) × IsRefused version query fault × (outcome ≡ fault_outcome fault))
    ⊎ ((outcome ≡ query_alone view_mismatch) × IsSound version query × ¬ (IsRowRead version view query.table key))

abbrev pub AnswersRow : Version → View → Query → List Value → Result (List Row) QueryOutcome → Type 0
AnswersRow version view query key (Ok rows) = IsReadAnswer version view query key rows
AnswersRow version view query key (Err outcome) = IsReadRefusal version view query key outcome

-- the row of the query's only key; a query with other conditions is refused as if it were none
abbrev pub QueriesKey : Version → View → Query → Option (List Value) → Result (List ℕ) QueryOutcome → Type 0
QueriesKey version view query None answer = answer ≡ Err (query_alone bad_code)
QueriesKey version view query (Some key) (Ok code) = (rows : List Row) × IsReadAnswer version view query key rows × (code ≡ rows_code rows)
QueriesKey version view query (Some key) (Err outcome) = IsReadRefusal version view query key outcome

abbrev pub QueriesRow : Version → View → Query → Result (List ℕ) QueryOutcome → Type 0
QueriesRow version view query answer = QueriesKey version view query (only_key query.conditions) answer
