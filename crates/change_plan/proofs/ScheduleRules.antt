-- What makes schedules a plan, and the version at each time.
use Rattle.std.specs.Prelude.{◌≡◌, ◌≢◌, ℕ, zero, suc, ◌+◌, ◌<◌, ◌≤◌, List, ◌∷◌, ◌++◌, Bool, true, false, Some, None, Contains, count_by, flat_map, refl}
use Rattle.std.proofs.Common.{sym, ap, ◌∙◌, arith}
use Rattle.schema_version.specs.declared.element.ElementState.TheVariants.{Public}
use Rattle.schema_version.specs.declared.element.Way.TheVariants.{Adding}
use Rattle.schema_version.specs.declared.element.ElementDef.{ElementDef}
use Rattle.schema_version.specs.declared.element.NewElement.{NewElement}
use Rattle.schema_version.specs.Version.{Version, Table, table_at, element_at, is_index, indexed_columns, type_of_kind, count_live}
use Rattle.schema_version.specs.Names.{IsName, max_elements}
use Rattle.schema_version.specs.Moves.{is_entry, IsFairKind, count_like, max_like, is_entry_like}
use Rattle.schema_version.specs.Steps.{IsOrdered}
use Rattle.change_plan.proofs.MoveEffects.{not_both}
use Rattle.change_plan.proofs.StepEffects.{not_given}
use Rattle.change_plan.specs.declared.schedule.Transition.TheVariants.{Appear}
use Rattle.change_plan.specs.declared.schedule.Schedule.{Schedule}
use Rattle.change_plan.specs.Schedule.{transition_at, duration, move_of}
use Rattle.change_plan.proofs.Schedules.{is_in, suits, Stop, Away, At, departure, stop_at, here, at_departure, departs_in}

-- ---- what makes schedules a plan

-- the number of the next element after this many steps
abbrev pub next_at : Version → List Schedule → ℕ → ℕ
next_at old schedules zero = old.next
next_at old schedules (suc time) = next_at old schedules time + count_by is_entry (flat_map (move_of time) schedules)

-- a column that a schedule's index lists, beside the schedules
pub data ColumnFits (old : Version) (schedules : List Schedule) (schedule : Schedule) (column : ℕ) : Type 0 where
  Steady : ((other : Schedule) → Contains schedules other → other.number ≢ column) → (element : ElementDef) → (type : _) → element_at old column ≡ Some element → element.table ≡ schedule.fresh.table → type_of_kind element.kind ≡ Some type → element.state ≡ Public → ColumnFits old schedules schedule column
  -- the index waits for the column
  Added : (other : Schedule) → Contains schedules other → other.number ≡ column → is_in other.state_path ≡ true → (type : _) → type_of_kind other.fresh.kind ≡ Some type → is_in schedule.state_path ≡ true → duration other ≤ schedule.wait → other.fresh.table ≡ schedule.fresh.table → ColumnFits old schedules schedule column
  -- the column waits for the index
  Dropped : (other : Schedule) → Contains schedules other → other.number ≡ column → departure other.state_path ≡ At Public Adding → is_in schedule.state_path ≡ false → duration schedule ≤ other.wait → ColumnFits old schedules schedule column

-- what an added element needs
pub record IsAdded (old : Version) (schedules : List Schedule) (schedule : Schedule) : Type 0 where
  pub unused : old.next ≤ schedule.number
  pub counted : schedule.number ≤ max_elements
  pub table : (table_at old schedule.fresh.table ≡ None) → ⊥
  pub name : IsName schedule.fresh.name
  pub fair : IsFairKind schedule.fresh.kind
  pub no_key : (def : Table) (type : _) → table_at old schedule.fresh.table ≡ Some def → Contains def.key (schedule.fresh.name, type) → ⊥
  pub no_live : (number : ℕ) (element : ElementDef) → element_at old number ≡ Some element → element.table ≡ schedule.fresh.table → element.name ≡ schedule.fresh.name → ⊥
  pub no_other : (other : Schedule) → Contains schedules other → is_in other.state_path ≡ true → other.fresh.table ≡ schedule.fresh.table → other.fresh.name ≡ schedule.fresh.name → other.number ≡ schedule.number

pub record IsSchedule (old : Version) (schedules : List Schedule) (schedule : Schedule) : Type 0 where
  pub kind : suits schedule.state_path schedule.fresh.kind ≡ true
  pub out : is_in schedule.state_path ≡ false → element_at old schedule.number ≡ here schedule.number schedule.fresh (departure schedule.state_path)
  pub added : is_in schedule.state_path ≡ true → IsAdded old schedules schedule
  pub columns : (column : ℕ) → Contains (indexed_columns schedule.fresh.kind) column → ColumnFits old schedules schedule column
  -- every index that lists it has a schedule
  pub covered : (number : ℕ) (element : ElementDef) → is_index schedule.fresh.kind ≡ false → element_at old number ≡ Some element → Contains (indexed_columns element.kind) schedule.number → (other : Schedule) × Contains schedules other × (other.number ≡ number)

pub record AreSchedules (old : Version) (schedules : List Schedule) : Type 0 where
  pub numbered : IsOrdered old
  pub one : (a b : Schedule) → Contains schedules a → Contains schedules b → a.number ≡ b.number → a ≡ b
  pub apart : (done rest : List Schedule) (schedule other : Schedule) → schedules ≡ done ++ schedule ∷ rest → Contains done other → other.number ≢ schedule.number
  -- numbers are given in order
  pub number : (done rest : List Schedule) (schedule : Schedule) (time : ℕ) → schedules ≡ done ++ schedule ∷ rest → transition_at schedule time ≡ Appear → schedule.number ≡ next_at old schedules time + count_by is_entry (flat_map (move_of time) done)
  pub schedule : (schedule : Schedule) → Contains schedules schedule → IsSchedule old schedules schedule

-- ---- the version at a time

-- how many of this kind have entered this table
abbrev pub entered_like : List Schedule → ℕ → Bool → ℕ → ℕ
entered_like schedules table index zero = 0
entered_like schedules table index (suc time) = entered_like schedules table index time + count_by (is_entry_like table index) (flat_map (move_of time) schedules)

pub record IsAt (old : Version) (schedules : List Schedule) (time : ℕ) (now : Version) : Type 0 where
  pub numbered : IsOrdered now
  pub next : now.next ≡ next_at old schedules time
  pub tables : now.tables ≡ old.tables
  pub schedule : (schedule : Schedule) → Contains schedules schedule → element_at now schedule.number ≡ here schedule.number schedule.fresh (stop_at schedule time)
  pub rest : (number : ℕ) → ((schedule : Schedule) → Contains schedules schedule → schedule.number ≢ number) → element_at now number ≡ element_at old number
  pub like : (table : ℕ) (index : Bool) → count_live now table index ≤ count_live old table index + entered_like schedules table index time

pub here_some : (number : ℕ) (fresh : NewElement) (stop : Stop) (e : ElementDef) → here number fresh stop ≡ Some e → (e.table ≡ fresh.table) × (e.name ≡ fresh.name) × (e.kind ≡ fresh.kind) × (stop ≢ Away)
here_some number fresh Away e is = absurd (not_both e None is refl)
here_some number fresh (At state way) e is = (cc, cc, cc, λ (w : At state way ≡ Away). cc)

-- there is room for each element that enters
abbrev pub HasRoom : Version → List Schedule → Type 0
HasRoom old schedules =
    (time : ℕ) (now : Version) → IsAt old schedules time now → (done rest : List Schedule) (schedule : Schedule) → schedules ≡ done ++ schedule ∷ rest → transition_at schedule time ≡ Appear
    → count_like now (flat_map (move_of time) done) schedule.fresh.table (is_index schedule.fresh.kind) < max_like (is_index schedule.fresh.kind)

module _ (old : Version) (schedules : List Schedule) (are : AreSchedules old schedules) where
  pub at_first : IsAt old schedules 0 old
  at_first = record { numbered = are.numbered; next = refl; tables = refl; schedule = λ schedule has. pick schedule has (is_in schedule.state_path) refl; rest = λ n none. refl; like = λ table index. omega arith }
    where
      at_home : (schedule : Schedule) → here schedule.number schedule.fresh (departure schedule.state_path) ≡ here schedule.number schedule.fresh (stop_at schedule 0)
      at_home schedule = ap (here schedule.number schedule.fresh) (sym (at_departure schedule 0 (omega arith)))

      pick : (schedule : Schedule) → Contains schedules schedule → (b : Bool) → is_in schedule.state_path ≡ b → element_at old schedule.number ≡ here schedule.number schedule.fresh (stop_at schedule 0)
      pick schedule has true is =
          let added = (are.schedule schedule has).added is in
          not_given old are.numbered schedule.number added.unused ∙ ap (here schedule.number schedule.fresh) (sym (departs_in schedule.state_path is)) ∙ at_home schedule
      pick schedule has false is = (are.schedule schedule has).out is ∙ at_home schedule
