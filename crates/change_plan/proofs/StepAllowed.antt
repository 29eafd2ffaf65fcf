-- A step made of schedules is allowed.
use Rattle.std.specs.Prelude.{◌≡◌, ◌≢◌, ℕ, suc, ◌+◌, ◌<◌, ◌≤◌, List, [], ◌∷◌, ◌++◌, Bool, true, false, ◌||◌, not, Option, Some, None, IsNone, Contains, count_by, flat_map, refl}
use Rattle.std.proofs.Common.{sym, ap, subst, ◌∙◌, inl, inr, true≢false, arith}
use Rattle.schema_version.specs.declared.element.ElementState.{ElementState}
use Rattle.schema_version.specs.declared.element.ElementState.TheVariants.{Absent, DeleteOnly, Public}
use Rattle.schema_version.specs.declared.element.Way.{Way}
use Rattle.schema_version.specs.declared.element.Way.TheVariants.{Adding, Dropping}
use Rattle.schema_version.specs.declared.element.Kind.{Kind}
use Rattle.schema_version.specs.declared.element.Kind.TheVariants.{Index, Optional, Required}
use Rattle.schema_version.specs.declared.element.ElementDef.{ElementDef}
use Rattle.schema_version.specs.declared.step.Move.{Move}
use Rattle.schema_version.specs.declared.step.Move.TheVariants.{Enter, Go, Turn}
use Rattle.schema_version.specs.declared.step.StepFault.{StepFault}
use Rattle.schema_version.specs.declared.step.StepFault.TheVariants.{Unknown, NotAdjacent, WrongWay, Dependent, NameTaken, Limit, Memory}
use Rattle.schema_version.specs.Version.{Version, table_at, element_at, state_or_absent, is_index, is_public, indexed_columns, IsLiveColumn}
use Rattle.schema_version.specs.Names.{max_elements}
use Rattle.schema_version.specs.Moves.{HasNoEdge, TurnFault, TurnFaultAt, is_entry, is_unready, IsFirstSuch, DependsOn, GoFault, GoFaultAt, MoveFault, IsAllowed, IsTaken, Enters, IsWithinLimits}
use Rattle.schema_version.specs.Edges.{edge, edge_by, is_filled}
use Rattle.change_plan.proofs.MoveEffects.{same_or_apart}
use Rattle.change_plan.specs.declared.schedule.Transition.{Transition}
use Rattle.change_plan.specs.declared.schedule.Transition.TheVariants.{Wait, Appear, Reach, Return}
use Rattle.change_plan.specs.declared.schedule.Schedule.{Schedule}
use Rattle.change_plan.specs.Schedule.{transition_at, duration, move_of}
use Rattle.std.proofs.lemmas.List.Elements.{Contains-append_left as contains_left}
use Rattle.change_plan.proofs.Named.{contains_middle, split_at}
use Rattle.change_plan.proofs.Schedules.{is_in, Away, At, stop_at, element_of, here, Leg, Rests, Starts, Runs, Turns as TurnsBack, leg, waits, waits_last, at_departure, at_destination, appears, departs_in, departs_out, arrives_in, arrives_out}
use Rattle.change_plan.proofs.ScheduleMoves.{moved_by, moving, Source, source, find_schedule, quiet}
use Rattle.change_plan.proofs.ScheduleRules.{Steady, AreSchedules, ColumnFits, Added, IsAt, Dropped, HasRoom, here_some, IsAdded, next_at}

-- who goes along an edge goes neither nowhere nor the wrong way
no_way : {A : Type 0} (way : Way) (o : Option Way) → o ≡ Some way → o ≡ None → A
no_way way o some none = absurd cc

some_edge : (kind : Kind) (way after : Way) (from to : ElementState) → edge kind way from to ≡ Some after → HasNoEdge kind from to → ⊥
some_edge kind Adding after from to e h = no_way after _ e h.0
some_edge kind Dropping after from to e h = no_way after _ e h.1

module _ (old : Version) (schedules : List Schedule) (are : AreSchedules old schedules) where
  module _ (time : ℕ) (now : Version) (at : IsAt old schedules time now) where
    -- a column that the index of a moving schedule lists is public and doesn't move
    column_ready : (schedule : Schedule) → Contains schedules schedule → (move : Move) → move_of time schedule ≡ move ∷ [] → (column : ℕ) → Contains (indexed_columns schedule.fresh.kind) column → is_unready now (flat_map (move_of time) schedules) column ≡ false
    column_ready schedule has move moves_now column lists = pick ((are.schedule schedule has).columns column lists)
      where
        both : (a b : Bool) → a ≡ true → b ≡ false → (not a || b) ≡ false
        both true b e f = f
        both false b e f = absurd (true≢false (sym e))

        public_here : (o : Option ElementDef) (e : ElementDef) → o ≡ Some e → e.state ≡ Public → is_public (state_or_absent o) ≡ true
        public_here o e is state = ap (λ p. is_public (state_or_absent p)) is ∙ ap is_public state

        of_schedule : (other : Schedule) → Contains schedules other → other.number ≡ column → stop_at other time ≡ At Public Adding → transition_at other time ≡ Wait → is_unready now (flat_map (move_of time) schedules) column ≡ false
        of_schedule other among is_column stands waits_now =
            both _ _
            (public_here (element_at now column) (element_of other.number other.fresh Public Adding)
            (subst (λ n. element_at now n ≡ Some (element_of other.number other.fresh Public Adding)) is_column (at.schedule other among ∙ ap (here other.number other.fresh) stands)) refl)
            (quiet time schedules column (λ x has_x. elim (same_or_apart x.number column) [
              | inl same ↦ inr (subst (λ (t : Schedule). transition_at t time ≡ Wait) (are.one other x among has_x (is_column ∙ sym same)) waits_now)
              | inr ne ↦ inl ne
            ]))

        pick : ColumnFits old schedules schedule column → is_unready now (flat_map (move_of time) schedules) column ≡ false
        pick (Steady none element type at_old table kind state) =
            both _ _ (public_here (element_at now column) element (at.rest column none ∙ at_old) state)
            (quiet time schedules column (λ x has_x. inl (none x has_x)))
        pick (Added other among is_column comes type kind new behind table) =
            let done : duration other ≤ time = omega (arith, behind, (moving time schedule move moves_now).0) in
            of_schedule other among is_column (at_destination other time done ∙ arrives_in other.state_path comes) (waits_last other time done)
        pick (Dropped other among is_column start gone behind) =
            let early : time < other.wait = omega (arith, behind, (moving time schedule move moves_now).1) in
            of_schedule other among is_column (at_departure other time (omega arith) ∙ start) (waits other time early)

    all_ready : (schedule : Schedule) → Contains schedules schedule → (move : Move) → move_of time schedule ≡ move ∷ [] → (columns : _) → schedule.fresh.kind ≡ Index columns → (on : ℕ) → IsFirstSuch (is_unready now (flat_map (move_of time) schedules)) columns on → ⊥
    all_ready schedule has move moves_now columns is on such =
        let among : Contains columns on = subst (λ xs. Contains xs on) (sym such.2) (contains_middle such.0 such.1 on) in
        true≢false (sym such.3 ∙ column_ready schedule has move moves_now on (subst (λ k. Contains (indexed_columns k) on) (sym is) among))

    -- no live index lists a column that moves
    no_index_on : (schedule : Schedule) → Contains schedules schedule → (move : Move) → move_of time schedule ≡ move ∷ [] → is_index schedule.fresh.kind ≡ false → (number : ℕ) (index : ElementDef) → element_at now number ≡ Some index → Contains (indexed_columns index.kind) schedule.number → ⊥
    no_index_on schedule has move moves_now is_column number index at_now lists = elim (find_schedule schedules number) [
      | inl found ↦
          let is_here : here found.0.number found.0.fresh (stop_at found.0 time) ≡ Some index = sym (at.schedule found.0 found.1) ∙ ap (element_at now) found.2 ∙ at_now in
          let parts = here_some found.0.number found.0.fresh (stop_at found.0 time) index is_here in
          fits found.0 found.1 parts.3 ((are.schedule found.0 found.1).columns schedule.number (subst (λ k. Contains (indexed_columns k) schedule.number) parts.2 lists))
      | inr none ↦
          let other = (are.schedule schedule has).covered number index is_column (sym (at.rest number none) ∙ at_now) lists in
          none other.0 other.1 other.2
    ]
      where
        fits : (other : Schedule) → Contains schedules other → stop_at other time ≢ Away → ColumnFits old schedules other schedule.number → ⊥
        fits other among live (Steady none element type at_old table kind state) = none schedule has refl
        fits other among live (Added x among_x is_number comes type kind new behind table) =
            let same : x ≡ schedule = are.one x schedule among_x has is_number in
            let behind_schedule : duration schedule ≤ other.wait = subst (λ (t : Schedule). duration t ≤ other.wait) same behind in
            live (at_departure other time (omega (arith, behind_schedule, (moving time schedule move moves_now).1)) ∙ departs_in other.state_path new)
        fits other among live (Dropped x among_x is_number start gone behind) =
            let same : x ≡ schedule = are.one x schedule among_x has is_number in
            let behind_other : duration other ≤ schedule.wait = subst (λ (t : Schedule). duration other ≤ t.wait) same behind in
            live (at_destination other time (omega (arith, behind_other, (moving time schedule move moves_now).0)) ∙ arrives_out other.state_path gone)

    go_allowed : (done rest : List Schedule) (schedule : Schedule) → schedules ≡ done ++ schedule ∷ rest → (state : ElementState) (way : Way) (goal : ElementState) (after : Way) → transition_at schedule time ≡ Reach goal → stop_at schedule time ≡ At state way → edge schedule.fresh.kind way state goal ≡ Some after
        → (fault : StepFault) → MoveFault now (flat_map (move_of time) schedules) (flat_map (move_of time) done) (Go schedule.number goal) fault → ⊥
    go_allowed done rest schedule split state way goal after transition stands along fault faulty = refute fault (subst (λ o. GoFaultAt now (flat_map (move_of time) schedules) (flat_map (move_of time) done) schedule.number o goal fault) (at.schedule schedule has ∙ ap (here schedule.number schedule.fresh) stands) faulty)
      where
        has : Contains schedules schedule
        has = subst (λ ts. Contains ts schedule) (sym split) (contains_middle done rest schedule)

        depends : (on : ℕ) (kind : Kind) → schedule.fresh.kind ≡ kind → DependsOn now (flat_map (move_of time) schedules) schedule.number kind on → ⊥
        depends on (Index columns) is such = all_ready schedule has _ (moved_by time schedule (Reach goal) transition) columns is on such
        depends on (Required type fallback) is such = no_index_on schedule has _ (moved_by time schedule (Reach goal) transition) (ap is_index is) on such.0.0 such.0.1 such.0.2
        depends on (Optional type) is such = no_index_on schedule has _ (moved_by time schedule (Reach goal) transition) (ap is_index is) on such.0.0 such.0.1 such.0.2

        refute : (fault : StepFault) → GoFault now (flat_map (move_of time) schedules) (flat_map (move_of time) done) schedule.number (element_of schedule.number schedule.fresh state way) goal fault → ⊥
        refute Unknown h = h
        refute NotAdjacent (inl none) = some_edge schedule.fresh.kind way after state goal along none
        refute NotAdjacent (inr twice) = true≢false (sym twice ∙ quiet time done schedule.number (λ x among. inl (are.apart done rest schedule x split among)))
        refute WrongWay h = no_way after _ along h
        refute (Dependent on) h = depends on schedule.fresh.kind refl h
        refute NameTaken h = h
        refute Limit h = h
        refute Memory h = h

    turn_allowed : (done rest : List Schedule) (schedule : Schedule) → schedules ≡ done ++ schedule ∷ rest → (state : ElementState) → stop_at schedule time ≡ At state Adding → state ≢ Public → (fault : StepFault) → MoveFault now (flat_map (move_of time) schedules) (flat_map (move_of time) done) (Turn schedule.number) fault → ⊥
    turn_allowed done rest schedule split state stands private fault faulty = refute fault (subst (λ o. TurnFaultAt (flat_map (move_of time) done) schedule.number o fault) (at.schedule schedule has ∙ ap (here schedule.number schedule.fresh) stands) faulty)
      where
        has : Contains schedules schedule
        has = subst (λ ts. Contains ts schedule) (sym split) (contains_middle done rest schedule)

        refute : (fault : StepFault) → TurnFault (flat_map (move_of time) done) schedule.number (element_of schedule.number schedule.fresh state Adding) fault → ⊥
        refute Unknown h = h
        refute NotAdjacent (inl public) = private public
        refute NotAdjacent (inr twice) = true≢false (sym twice ∙ quiet time done schedule.number (λ x among. inl (are.apart done rest schedule x split among)))
        refute WrongWay h = let wrong : Adding ≡ Dropping = h in cc
        refute (Dependent on) h = h
        refute NameTaken h = h
        refute Limit h = h
        refute Memory h = h

    same_table : (number : ℕ) → table_at now number ≡ table_at old number
    same_table number = ap (λ tables. table_at (record now { tables = tables }) number) at.tables

    none_is : {A : Type 0} (o : Option A) → IsNone o → o ≡ None
    none_is None h = refl
    none_is (Some x) h = absurd (true≢false h)

    -- the entry of a schedule
    entry_source : (done : List Schedule) (move : Move) → Contains (flat_map (move_of time) done) move → (table : ℕ) (name : List ℕ) → Enters table name move → (other : Schedule) × Contains done other × (is_in other.state_path ≡ true) × (other.fresh.table ≡ table) × (other.fresh.name ≡ name)
    entry_source done move among table name enters = pick (transition_at from.schedule time) refl
      where
        split : (before after : List Move) × (flat_map (move_of time) done ≡ before ++ move ∷ after)
        split = split_at (flat_map (move_of time) done) move among

        from : Source time done split.0 move
        from = source time done split.0 split.1 move split.2

        of : Contains done from.schedule
        of = subst (λ ts. Contains ts from.schedule) (sym from.split) (contains_middle from.done from.rest from.schedule)

        pick : (transition : Transition) → transition_at from.schedule time ≡ transition → (other : Schedule) × Contains done other × (is_in other.state_path ≡ true) × (other.fresh.table ≡ table) × (other.fresh.name ≡ name)
        pick Wait is = let none : [] ≡ move ∷ [] = sym (moved_by time from.schedule Wait is) ∙ from.move_is in cc
        pick Appear is =
            let one : Enter from.schedule.fresh DeleteOnly ∷ [] ≡ move ∷ [] = sym (moved_by time from.schedule Appear is) ∙ from.move_is in
            let same : Enter from.schedule.fresh DeleteOnly ≡ move = cc in
            let parts : Enters table name (Enter from.schedule.fresh DeleteOnly) = subst (Enters table name) (sym same) enters in
            (from.schedule, of, (appears from.schedule time is).1, parts.0, parts.1)
        pick Return is =
            let one : Turn from.schedule.number ∷ [] ≡ move ∷ [] = sym (moved_by time from.schedule Return is) ∙ from.move_is in
            let same : Turn from.schedule.number ≡ move = cc in
            absurd (subst (Enters table name) (sym same) enters)
        pick (Reach to) is =
            let one : Go from.schedule.number to ∷ [] ≡ move ∷ [] = sym (moved_by time from.schedule (Reach to) is) ∙ from.move_is in
            let same : Go from.schedule.number to ≡ move = cc in
            absurd (subst (Enters table name) (sym same) enters)

    -- a column that a new index lists is live
    column_live : (schedule : Schedule) → Contains schedules schedule → is_in schedule.state_path ≡ true → (move : Move) → move_of time schedule ≡ move ∷ [] → (column : ℕ) → Contains (indexed_columns schedule.fresh.kind) column → IsLiveColumn now schedule.fresh.table column
    column_live schedule has is_new move moves_now column lists = pick ((are.schedule schedule has).columns column lists)
      where
        pick : ColumnFits old schedules schedule column → IsLiveColumn now schedule.fresh.table column
        pick (Steady none element type at_old table kind state) = (element, type, at.rest column none ∙ at_old, table, kind)
        pick (Added other among is_column comes type kind new behind table) =
            let done : duration other ≤ time = omega (arith, behind, (moving time schedule move moves_now).0) in (
              element_of other.number other.fresh Public Adding,
              type,
              subst (λ n. element_at now n ≡ Some (element_of other.number other.fresh Public Adding)) is_column (at.schedule other among ∙ ap (here other.number other.fresh) (at_destination other time done ∙ arrives_in other.state_path comes)),
              table,
              kind,
            )
        pick (Dropped other among is_column start gone behind) = absurd (true≢false (sym is_new ∙ gone))

    none_first : (test : ℕ → Bool) (on : ℕ) → IsFirstSuch test [] on → ⊥
    none_first test on ([], after, split, is, rest) = let wrong : [] ≡ on ∷ after = split in cc
    none_first test on (x ∷ before, after, split, is, rest) = let wrong : [] ≡ x ∷ (before ++ on ∷ after) = split in cc

    depends_first : (earlier : List Move) (table : ℕ) (name : List ℕ) (kind : Kind) (on : ℕ) → MoveFault now (flat_map (move_of time) schedules) earlier (Enter (record { table = table; name = name; kind = kind }) DeleteOnly) (Dependent on) → ((columns : _) → kind ≡ Index columns → IsFirstSuch (is_unready now (flat_map (move_of time) schedules)) columns on → ⊥) → ⊥
    depends_first earlier table name (Index columns) on h f = f columns refl h
    depends_first earlier table name (Optional type) on h f = none_first (is_unready now (flat_map (move_of time) schedules)) on h
    depends_first earlier table name (Required type fallback) on h f = none_first (is_unready now (flat_map (move_of time) schedules)) on h

    enter_allowed : HasRoom old schedules → (done rest : List Schedule) (schedule : Schedule) → schedules ≡ done ++ schedule ∷ rest → transition_at schedule time ≡ Appear → stop_at schedule time ≡ Away → is_in schedule.state_path ≡ true → (fault : StepFault) → MoveFault now (flat_map (move_of time) schedules) (flat_map (move_of time) done) (Enter schedule.fresh DeleteOnly) fault → ⊥
    enter_allowed room done rest schedule split transition away is_new = refute
      where
        has : Contains schedules schedule
        has = subst (λ ts. Contains ts schedule) (sym split) (contains_middle done rest schedule)

        added : IsAdded old schedules schedule
        added = (are.schedule schedule has).added is_new

        moves_now : move_of time schedule ≡ Enter schedule.fresh DeleteOnly ∷ []
        moves_now = moved_by time schedule Appear transition

        no_edge : (filled : Bool) → edge_by filled Adding Absent DeleteOnly ≡ None → ⊥
        no_edge true e = no_way Adding (Some Adding) refl e
        no_edge false e = no_way Adding (Some Adding) refl e

        live_name : (place : ℕ) (element : ElementDef) → element_at now place ≡ Some element → element.table ≡ schedule.fresh.table → element.name ≡ schedule.fresh.name → ⊥
        live_name place element at_now table name = elim (find_schedule schedules place) [
          | inl found ↦
              let is_here : here found.0.number found.0.fresh (stop_at found.0 time) ≡ Some element = sym (at.schedule found.0 found.1) ∙ ap (element_at now) found.2 ∙ at_now in
              let parts = here_some found.0.number found.0.fresh (stop_at found.0 time) element is_here in
              of_schedule found.0 found.1 (sym parts.0 ∙ table) (sym parts.1 ∙ name) parts.3 (is_in found.0.state_path) refl
          | inr none ↦ added.no_live place element (sym (at.rest place none) ∙ at_now) table name
        ]
          where
            of_schedule : (other : Schedule) → Contains schedules other → other.fresh.table ≡ schedule.fresh.table → other.fresh.name ≡ schedule.fresh.name → stop_at other time ≢ Away → (b : Bool) → is_in other.state_path ≡ b → ⊥
            of_schedule other among t n live true is =
                let same : other ≡ schedule = are.one other schedule among has (added.no_other other among is t n) in
                live (ap (λ (x : Schedule). stop_at x time) same ∙ away)
            of_schedule other among t n live false is =
                let start = departs_out other.state_path is in
                added.no_live other.number (element_of other.number other.fresh start.0 start.1) ((are.schedule other among).out is ∙ ap (here other.number other.fresh) start.2) t n

        taken : IsTaken now (flat_map (move_of time) done) schedule.fresh.table schedule.fresh.name → ⊥
        taken (inl key) = added.no_key key.0 key.1 (sym (same_table schedule.fresh.table) ∙ key.2) key.3
        taken (inr (inl live)) = live_name live.1 live.0 live.2 live.3 live.4
        taken (inr (inr entry)) =
            let other = entry_source done entry.0 entry.1 schedule.fresh.table schedule.fresh.name entry.2 in
            let among : Contains schedules other.0 = subst (λ ts. Contains ts other.0) (sym split) (contains_left done (schedule ∷ rest) other.0 other.1) in
            are.apart done rest schedule other.0 split other.1 (added.no_other other.0 among other.2 other.3 other.4)

        limits : IsWithinLimits now (flat_map (move_of time) done) schedule.fresh
        limits =
            let number : schedule.number ≡ next_at old schedules time + count_by is_entry (flat_map (move_of time) done) = are.number done rest schedule time split transition in
            let next : now.next ≡ next_at old schedules time = at.next in
            let counted : schedule.number ≤ max_elements = added.counted in
            (added.name, added.fair, room time now at done rest schedule split transition, omega arith)

        refute : (fault : StepFault) → MoveFault now (flat_map (move_of time) schedules) (flat_map (move_of time) done) (Enter schedule.fresh DeleteOnly) fault → ⊥
        refute Unknown (inl none) = added.table (sym (same_table schedule.fresh.table) ∙ none_is _ none)
        refute Unknown (inr column) = column.2 (column_live schedule has is_new _ moves_now column.0 column.1)
        refute NotAdjacent h = no_edge (is_filled schedule.fresh.kind) h.0
        refute WrongWay h = h
        refute (Dependent on) h = depends_first (flat_map (move_of time) done) schedule.fresh.table schedule.fresh.name schedule.fresh.kind on h (λ columns is such. all_ready schedule has _ moves_now columns is on such)
        refute NameTaken h = taken h
        refute Limit h = h limits
        refute Memory h = h

    pub step_allowed : HasRoom old schedules → IsAllowed now (flat_map (move_of time) schedules)
    step_allowed room earlier later move fault split faulty = pick (leg from.schedule time)
      where
        from : Source time schedules earlier move
        from = source time schedules earlier later move split

        has : Contains schedules from.schedule
        has = subst (λ ts. Contains ts from.schedule) (sym from.split) (contains_middle from.done from.rest from.schedule)

        as_moved : (own : Move) → move_of time from.schedule ≡ own ∷ [] → MoveFault now (flat_map (move_of time) schedules) (flat_map (move_of time) from.done) own fault
        as_moved own is =
            let one : own ∷ [] ≡ move ∷ [] = sym is ∙ from.move_is in
            let same : own ≡ move = cc in
            subst (λ e. MoveFault now (flat_map (move_of time) schedules) e own fault) from.earlier_is (subst (λ m. MoveFault now (flat_map (move_of time) schedules) earlier m fault) (sym same) faulty)

        pick : Leg from.schedule.state_path (transition_at from.schedule time) (stop_at from.schedule time) (stop_at from.schedule (suc time)) → ⊥
        pick (Rests transition same) = let none : [] ≡ move ∷ [] = sym (moved_by time from.schedule Wait transition) ∙ from.move_is in cc
        pick (Starts transition away to is) = enter_allowed room from.done from.rest from.schedule from.split transition away is fault (as_moved _ (moved_by time from.schedule Appear transition))
        pick (Runs state way goal after transition stands along to) = go_allowed from.done from.rest from.schedule from.split state way goal after transition stands (along from.schedule.fresh.kind (are.schedule from.schedule has).kind) fault (as_moved _ (moved_by time from.schedule (Reach goal) transition))
        pick (TurnsBack state transition stands private to) = turn_allowed from.done from.rest from.schedule from.split state stands private fault (as_moved _ (moved_by time from.schedule Return transition))
