-- An allowed step keeps what is true of every version: how the version after some of its moves goes back to the old one.
use Rattle.std.proofs.Common.{◌≡◌, ℕ, ◌+◌, ◌≤◌, Bool, true, false, cond, not, ◌&&◌, ◌||◌, ◌==◌, List, [], ◌∷◌, ◌++◌, Option, Some, None, inl, inr, refl, sym, ap, subst, ◌∙◌, arith, Contains, Ok, Err, count_by, append_assoc, add-zero}
use Rattle.std.specs.Prelude.{IsNone, OnOk}
use Rattle.std.specs.Option.{unwrap_or}
use Rattle.std.specs.List.{find as find_by, list_any}
use Rattle.std.specs.FinMap as map
use Rattle.std.proofs.lemmas.Bool.Decides.{Decides-eqb}
use Rattle.std.proofs.lemmas.List.Elements.{Contains-append_right, Contains-append_left}
use Rattle.std.proofs.lemmas.List.Sums.{sum_by-cons, sum_by-append}
use Rattle.schema_version.specs.declared.element.ElementState.{ElementState}
use Rattle.schema_version.specs.declared.element.ElementState.TheVariants.{Absent, DeleteOnly, WriteOnly, Public}
use Rattle.schema_version.specs.declared.element.Way.{Way}
use Rattle.schema_version.specs.declared.element.Way.TheVariants.{Adding, Dropping}
use Rattle.schema_version.specs.declared.element.Kind.{Kind}
use Rattle.schema_version.specs.declared.element.ElementDef.{ElementDef}
use Rattle.schema_version.specs.declared.element.NewElement.{NewElement}
use Rattle.schema_version.specs.declared.step.Move.{Move}
use Rattle.schema_version.specs.declared.step.Move.TheVariants.{Enter, Go, Turn}
use Rattle.schema_version.specs.declared.step.StepFault.TheVariants.{Unknown, NotAdjacent, Dependent, NameTaken, Limit}
use Rattle.schema_version.specs.Version.{Version, table_at, element_at, state_of, state_or_absent, live, is_index, is_like, is_public, indexed_columns, IsLiveColumn, IsPublicColumn, count_live, type_of_kind}
use Rattle.schema_version.specs.Edges.{edge, HasEdge, edge_by, is_filled}
use Rattle.schema_version.specs.Moves.{as_element, in_state, moved, turned_back, turned, after_move, after_step, is_move_of, moves_element, is_unready, is_entry, is_entry_like, count_like, IsFirstSuch, IsIndexOn, IsLeastIndexOn, IsWithinLimits, IsAllowed}
use Rattle.schema_version.specs.Steps.{IsOrdered, in_state_or_none}
use Rattle.schema_version.specs.Checks.{Answer, step_check, lists, is_column_of, is_within_limits}
use Rattle.schema_version.specs.Sound.{IsSoundVersion}
use Rattle.schema_version.proofs.Entries.{tells}
use Rattle.schema_version.proofs.Lists.{here, some_same, not_both, any_from, find_first, none_in}
use Rattle.schema_version.proofs.Live.{none_passes, element_at-lookup}
use Rattle.schema_version.proofs.Changes.{moved_here, moved_apart, moved_next, turned_here, turned_apart, its_go, its_turn, inserted_here, inserted_apart}
use Rattle.schema_version.proofs.Decides.{AreNumbered, least, listing, column_is, within, column_depends}
use Rattle.schema_version.proofs.Declared.{any_append}
use Rattle.schema_version.proofs.Steps.{truly, step_allowed}
use Rattle.schema_version.proofs.StepEffects.{split_at, not_true, some_edge, adding_to_public, edge_to, is_live, clear, is_live_back, not_before, own_way, may_turn}
use Rattle.schema_version.proofs.Counts.{count_insert}
use Rattle.schema_version.proofs.Keeps.{MayEnter, enter_sound, moved_sound, moved_count, turned_sound, turned_count}

or_false : (a b : Bool) → (a || b) ≡ false → (a ≡ false) × (b ≡ false)
or_false false b e = (refl, e)
or_false true b e = cc

some_there : {X : Type 0} (o : Option X) → ¬ (IsNone o) → (x : X) × (o ≡ Some x)
some_there None h = absurd (h refl)
some_there (Some x) h = (x, refl)

-- a sound version is in order
pub ordered_of : (v : Version) → IsSoundVersion v → IsOrdered v
ordered_of v sound = record { numbered = λ n e at. (sound.elements n e at).own; below = λ n e at. (sound.elements n e at).given }

-- a list of which none is the first that passes
all_ready : (test : ℕ → Bool) (list : List ℕ) → ((on : ℕ) → ¬ (IsFirstSuch test list on)) → (c : ℕ) → Contains list c → test c ≡ false
all_ready test list none c there =
    let s = split_at list c there in
    not_true (test c) (λ passes. by (find_by test list) refl s.0 s.1 s.2 passes)
  where
    by : (o : Option ℕ) → find_by test list ≡ o → (before after : List ℕ) → list ≡ before ++ c ∷ after → test c ≡ true → ⊥
    by (Some on) e before after split passes = none on (find_first test list on e)
    by None e before after split passes = none_in test before after c (subst (λ l. find_by test l ≡ None) split e) passes

-- where an index lists a column, there is the least one
pub least_there : (v : Version) (column m : ℕ) → AreNumbered v → IsIndexOn v column m → (on : ℕ) × IsLeastIndexOn v column on
least_there v column m numbered (e, at, there) = by (find_by (lists column) (live v)) refl
  where
    by : (o : Option ElementDef) → find_by (lists column) (live v) ≡ o → (on : ℕ) × IsLeastIndexOn v column on
    by None none = absurd (none_passes (lists column) (map.entries v.elements) m e none (sym (element_at-lookup v m) ∙ at) ((listing column e).1 there))
    by (Some x) found = (x.number, least v column numbered (Some x) found)

public_state : (o : Option ElementDef) (e : ElementDef) → o ≡ Some e → is_public (state_or_absent o) ≡ true → e.state ≡ Public
public_state o e at public = by e.state refl (subst (λ (p : Option ElementDef). is_public (state_or_absent p) ≡ true) at public)
  where
    by : (s : ElementState) → e.state ≡ s → is_public e.state ≡ true → e.state ≡ Public
    by Public is p = is
    by Absent is p = absurd (not_both p (ap is_public is))
    by DeleteOnly is p = absurd (not_both p (ap is_public is))
    by WriteOnly is p = absurd (not_both p (ap is_public is))

none_to_absent : (filled : Bool) (way next : Way) → edge_by filled way Absent Absent ≡ Some next → ⊥
none_to_absent true Adding next e = cc
none_to_absent true Dropping next e = cc
none_to_absent false Adding next e = cc
none_to_absent false Dropping next e = cc

no_edge_to_absent : (kind : Kind) → ¬ (HasEdge kind Absent Absent)
no_edge_to_absent kind (way, next, e) = none_to_absent (is_filled kind) way next e

-- what comes to public does so by adding
way_to : (e : ElementDef) (to : ElementState) (way : Way) → edge e.kind e.way e.state to ≡ Some way → to ≡ Public → (in_state e to).way ≡ Adding
way_to e to way own is =
    ap (λ o. unwrap_or o e.way) own
    ∙ (adding_to_public e.kind e.way e.state way (subst (λ s. edge e.kind e.way e.state s ≡ Some way) is own)).2

count_behind : (p : Move → Bool) (earlier : List Move) (m : Move) → count_by p (earlier ++ m ∷ []) ≡ count_by p earlier + cond (p m) 1 0
count_behind p earlier m =
    sum_by-append (λ a. cond (p a) 1 0) earlier (m ∷ [])
    ∙ ap (λ n. count_by p earlier + n) (sum_by-cons (λ a. cond (p a) 1 0) m [] ∙ add-zero (cond (p m) 1 0))

-- where an element of the version so far is from
data From (v : Version) (earlier : List Move) (n : ℕ) (e : ElementDef) : Type 0 where
  Old : (d : ElementDef) → element_at v n ≡ Some d → e.table ≡ d.table → e.name ≡ d.name → e.kind ≡ d.kind → From v earlier n e
  New : (fresh : NewElement) (to : ElementState) → Contains earlier (Enter fresh to) → e.table ≡ fresh.table → e.name ≡ fresh.name → e.kind ≡ fresh.kind → From v earlier n e

from_longer : (v : Version) (earlier : List Move) (m : Move) (n : ℕ) (e : ElementDef) → From v earlier n e → From v (earlier ++ m ∷ []) n e
from_longer v earlier m n e (Old d at table name kind) = Old d at table name kind
from_longer v earlier m n e (New fresh to there table name kind) = New fresh to (Contains-append_left earlier (m ∷ []) (Enter fresh to) there) table name kind

record Along (v : Version) (earlier : List Move) (u : Version) : Type 0 where
  sound : IsSoundVersion u
  tables : u.tables ≡ v.tables
  next : u.next ≡ v.next + count_by is_entry earlier
  from : (n : ℕ) (e : ElementDef) → element_at u n ≡ Some e → From v earlier n e
  kept : (n : ℕ) (d : ElementDef) → element_at v n ≡ Some d → moves_element earlier n ≡ false → element_at u n ≡ Some d
  counts : (table : ℕ) (index : Bool) → count_live u table index ≤ count_like v earlier table index

moved_tables : (u : Version) (e : ElementDef) (to : ElementState) → (moved u (Some e) to).tables ≡ u.tables
moved_tables u e Absent = refl
moved_tables u e DeleteOnly = refl
moved_tables u e WriteOnly = refl
moved_tables u e Public = refl

-- an element in another state is of its table, name and kind
pub same_else : (e x : ElementDef) (to : ElementState) → in_state_or_none e to ≡ Some x → (x.table ≡ e.table) × (x.name ≡ e.name) × (x.kind ≡ e.kind)
same_else e x Absent is = cc
same_else e x DeleteOnly is = (ap (λ (y : ElementDef). y.table) (sym (some_same is)), ap (λ (y : ElementDef). y.name) (sym (some_same is)), ap (λ (y : ElementDef). y.kind) (sym (some_same is)))
same_else e x WriteOnly is = (ap (λ (y : ElementDef). y.table) (sym (some_same is)), ap (λ (y : ElementDef). y.name) (sym (some_same is)), ap (λ (y : ElementDef). y.kind) (sym (some_same is)))
same_else e x Public is = (ap (λ (y : ElementDef). y.table) (sym (some_same is)), ap (λ (y : ElementDef). y.name) (sym (some_same is)), ap (λ (y : ElementDef). y.kind) (sym (some_same is)))

-- what doesn't move among these and one more
unmoved : (earlier : List Move) (m : Move) (n : ℕ) → moves_element (earlier ++ m ∷ []) n ≡ false → (moves_element earlier n ≡ false) × (is_move_of n m ≡ false)
unmoved earlier m n still =
    let both = or_false (moves_element earlier n) (list_any (is_move_of n) (m ∷ [])) (sym (any_append (is_move_of n) earlier (m ∷ [])) ∙ still) in
    (both.0, (or_false (is_move_of n m) false both.1).0)

module _ (v : Version) (step : List Move) (sound : IsSoundVersion v) (allowed : IsAllowed v step) where
  numbered : AreNumbered v
  numbered = λ n e at. (sound.elements n e at).own

  -- what doesn't move in the step doesn't move in its first part
  still_before : (earlier rest : List Move) (n : ℕ) → step ≡ earlier ++ rest → moves_element step n ≡ false → moves_element earlier n ≡ false
  still_before earlier rest n split still =
      (or_false (moves_element earlier n) (moves_element rest n) (sym (any_append (is_move_of n) earlier rest) ∙ ap (λ l. moves_element l n) (sym split) ∙ still)).0

  -- the columns of an index that enters are public and don't move
  pub ready : (earlier later : List Move) (fresh : NewElement) (to : ElementState) → step ≡ earlier ++ Enter fresh to ∷ later → (c : ℕ) → Contains (indexed_columns fresh.kind) c → (is_public (state_of v c) ≡ true) × (moves_element step c ≡ false)
  ready earlier later fresh to split c there =
      let none = all_ready (is_unready v step) (indexed_columns fresh.kind) (λ on first. allowed earlier later (Enter fresh to) (Dependent on) split first) c there in
      let both = or_false (not (is_public (state_of v c))) (moves_element step c) none in
      (not_not (is_public (state_of v c)) both.0, both.1)
    where
      not_not : (b : Bool) → not b ≡ false → b ≡ true
      not_not true e = refl
      not_not false e = cc

  columns_public : (earlier later : List Move) (fresh : NewElement) (to : ElementState) → step ≡ earlier ++ Enter fresh to ∷ later → (u : Version) → Along v earlier u
      → (c : ℕ) → Contains (indexed_columns fresh.kind) c → IsPublicColumn u fresh.table c
  columns_public earlier later fresh to split u along c there =
      let is : IsLiveColumn v fresh.table c = truly (is_column_of fresh.table (element_at v c)) (column_is v fresh.table c) (λ strange. allowed earlier later (Enter fresh to) Unknown split (inr (c, there, strange))) in
      let r = ready earlier later fresh to split c there in (
        is.0,
        is.1,
        along.kept c is.0 is.2 (still_before earlier (Enter fresh to ∷ later) c split r.1),
        is.3,
        is.4,
        public_state (element_at v c) is.0 is.2 r.0,
      )

  limits : (earlier later : List Move) (fresh : NewElement) (to : ElementState) → step ≡ earlier ++ Enter fresh to ∷ later → IsWithinLimits v earlier fresh
  limits earlier later fresh to split = truly (is_within_limits v earlier fresh) (within v earlier fresh) (allowed earlier later (Enter fresh to) Limit split)

  not_taken : (earlier later : List Move) (fresh : NewElement) (to : ElementState) → step ≡ earlier ++ Enter fresh to ∷ later → (n : ℕ) (e : ElementDef) → From v earlier n e → e.table ≡ fresh.table → e.name ≡ fresh.name → ⊥
  not_taken earlier later fresh to split n e (Old d at table name kind) same_table same_name =
      allowed earlier later (Enter fresh to) NameTaken split (inr (inl (d, n, at, sym table ∙ same_table, sym name ∙ same_name)))
  not_taken earlier later fresh to split n e (New f t there table name kind) same_table same_name =
      allowed earlier later (Enter fresh to) NameTaken split (inr (inr (Enter f t, there, (sym table ∙ same_table, sym name ∙ same_name))))

  may_enter : (earlier later : List Move) (fresh : NewElement) (to : ElementState) → step ≡ earlier ++ Enter fresh to ∷ later → (u : Version) → Along v earlier u → MayEnter u fresh to
  may_enter earlier later fresh to split u along =
      let l = limits earlier later fresh to split in
      let has : HasEdge fresh.kind Absent to = some_edge fresh.kind Absent to (λ none. allowed earlier later (Enter fresh to) NotAdjacent split none) in
      let tables_at : table_at u fresh.table ≡ table_at v fresh.table = ap (λ ts. table_at (record v { tables = ts }) fresh.table) along.tables in
      let there = some_there (table_at v fresh.table) (λ none. allowed earlier later (Enter fresh to) Unknown split (inl none)) in
      record {
        room = (let room = l.3 in let next = along.next in omega (arith, room, next));
        live = λ is. no_edge_to_absent fresh.kind (subst (HasEdge fresh.kind Absent) is has);
        possible = edge_to fresh.kind has.0 has.1 Absent to has.2;
        named = l.0;
        placed = (there.0, tables_at ∙ there.1);
        apart = λ (table, type, at, key). allowed earlier later (Enter fresh to) NameTaken split (inl (table, type, sym tables_at ∙ at, key));
        fair = l.1;
        columns = columns_public earlier later fresh to split u along;
        free = λ n e at table name. not_taken earlier later fresh to split n e (along.from n e at) table name;
        few = (let few = l.2 in let so_far = along.counts fresh.table (is_index fresh.kind) in omega (arith, few, so_far));
      }

  along_entered : (earlier later : List Move) (fresh : NewElement) (to : ElementState) → step ≡ earlier ++ Enter fresh to ∷ later → (u : Version) → Along v earlier u → Along v (earlier ++ Enter fresh to ∷ []) (after_move u (Enter fresh to))
  along_entered earlier later fresh to split u along =
      record {
        sound = enter_sound u fresh to along.sound (may_enter earlier later fresh to split u along);
        tables = along.tables;
        next = (let next = along.next in let more = count_behind is_entry earlier (Enter fresh to) in omega (arith, next, more));
        from = λ n e at. elim (tells n u.next) [
          | inl p ↦ (let is : as_element u.next fresh to ≡ e = some_same (sym (inserted_here u.elements u.next n (as_element u.next fresh to) p.1) ∙ at) in
              New fresh to (Contains-append_right earlier (Enter fresh to ∷ []) (Enter fresh to) (here (Enter fresh to) []))
              (ap (λ (x : ElementDef). x.table) (sym is)) (ap (λ (x : ElementDef). x.name) (sym is)) (ap (λ (x : ElementDef). x.kind) (sym is)))
          | inr p ↦ from_longer v earlier (Enter fresh to) n e (along.from n e (sym (inserted_apart u.elements u.next n (as_element u.next fresh to) p.1) ∙ at))
        ];
        kept = λ n d at still.
            inserted_apart u.elements u.next n (as_element u.next fresh to) (λ is. (let lt = (sound.elements n d at).given in let next = along.next in absurd (omega (arith, is, lt, next))))
            ∙ along.kept n d at (unmoved earlier (Enter fresh to) n still).0;
        counts = λ table index.
            let so_far = along.counts table index in
            let more = count_insert (λ (e : ElementDef). (e.table == table) && is_like index e.kind) u.elements u.next (as_element u.next fresh to) in
            let behind = count_behind (is_entry_like table index) earlier (Enter fresh to) in
            omega (arith, so_far, more, behind);
      }

  -- no index lists a column that moves
  not_listed : (earlier later : List Move) (n : ℕ) (to : ElementState) (e : ElementDef) → step ≡ earlier ++ Go n to ∷ later → element_at v n ≡ Some e → (u : Version) → Along v earlier u → element_at u n ≡ Some e
      → (m : ℕ) (index : ElementDef) → element_at u m ≡ Some index → ¬ (Contains (indexed_columns index.kind) n)
  not_listed earlier later n to e split at u along now m x at_m there = by (along.from m x at_m)
    where
      column : IsPublicColumn u x.table n
      column = (along.sound.elements m x at_m).columns n there

      type : type_of_kind e.kind ≡ Some column.1
      type = ap (λ (y : ElementDef). type_of_kind y.kind) (some_same (sym now ∙ column.2)) ∙ column.4

      by : From v earlier m x → ⊥
      by (Old d at_d table name kind) =
          let least = least_there v n m numbered (d, at_d, subst (λ k. Contains (indexed_columns k) n) kind there) in
          clear v step allowed earlier later n to e (Dependent least.0) split at (column_depends v step n e.kind column.1 least.0 type least.1)
      by (New fresh t among table name kind) =
          let s = split_at earlier (Enter fresh t) among in
          let whole : step ≡ s.0 ++ Enter fresh t ∷ (s.1 ++ Go n to ∷ later) = split ∙ ap (λ l. l ++ Go n to ∷ later) s.2 ∙ append_assoc s.0 (Enter fresh t ∷ s.1) (Go n to ∷ later) in
          let still = (ready s.0 (s.1 ++ Go n to ∷ later) fresh t whole n (subst (λ k. Contains (indexed_columns k) n) kind there)).1 in
          let moves : Contains step (Go n to) = subst (λ l. Contains l (Go n to)) (sym split) (Contains-append_right earlier (Go n to ∷ later) (Go n to) (here (Go n to) later)) in
          not_both (any_from (is_move_of n) step (Go n to) moves ((Decides-eqb n n).1 refl)) still

  along_moved : (earlier later : List Move) (n : ℕ) (to : ElementState) (e : ElementDef) → step ≡ earlier ++ Go n to ∷ later → element_at v n ≡ Some e → (u : Version) → Along v earlier u → element_at u n ≡ Some e
      → Along v (earlier ++ Go n to ∷ []) (moved u (Some e) to)
  along_moved earlier later n to e split at u along now =
      let own_edge = own_way v step allowed earlier later n to e split at in
      let unlisted = not_listed earlier later n to e split at u along now in
      let own : e.number ≡ n = (along.sound.elements n e now).own in
      record {
        sound = moved_sound u n e along.sound now unlisted to (edge_to e.kind e.way own_edge.0 e.state to own_edge.1) (way_to e to own_edge.0 own_edge.1);
        tables = moved_tables u e to ∙ along.tables;
        next = (let same = moved_next u (Some e) to in let next = along.next in let more = count_behind is_entry earlier (Go n to) in omega (arith, same, next, more));
        from = λ m x at_m. elim (tells m n) [
          | inl p ↦ (let same = same_else e x to (sym (moved_here u e n to own) ∙ ap (element_at (moved u (Some e) to)) (sym p.1) ∙ at_m) in
              Old e (ap (element_at v) p.1 ∙ at) same.0 same.1 same.2)
          | inr p ↦ from_longer v earlier (Go n to) m x (along.from m x (sym (moved_apart u (Some e) n m to (λ f same. ap (λ (y : ElementDef). y.number) (sym (some_same same)) ∙ own) p.1) ∙ at_m))
        ];
        kept = λ m d at_m still.
            let two = unmoved earlier (Go n to) m still in
            moved_apart u (Some e) n m to (λ f same. ap (λ (y : ElementDef). y.number) (sym (some_same same)) ∙ own) (λ is. not_both ((Decides-eqb n m).1 (sym is)) two.1)
            ∙ along.kept m d at_m two.0;
        counts = λ table index.
            let so_far = along.counts table index in
            let fewer = moved_count u n e along.sound now unlisted to table index in
            let behind = count_behind (is_entry_like table index) earlier (Go n to) in
            omega (arith, so_far, fewer, behind);
      }

  -- no index lists what turns back, since it is not public
  along_turned : (earlier later : List Move) (n : ℕ) (e : ElementDef) → step ≡ earlier ++ Turn n ∷ later → element_at v n ≡ Some e → (u : Version) → Along v earlier u → element_at u n ≡ Some e
      → Along v (earlier ++ Turn n ∷ []) (turned u (Some e))
  along_turned earlier later n e split at u along now =
      let private = (may_turn v step allowed earlier later n e split at).0 in
      let own : e.number ≡ n = (along.sound.elements n e now).own in
      let unlisted : (m : ℕ) (index : ElementDef) → element_at u m ≡ Some index → ¬ (Contains (indexed_columns index.kind) n)
      = λ m index at_m there. (let column = (along.sound.elements m index at_m).columns n there in private (ap (λ (y : ElementDef). y.state) (some_same (sym now ∙ column.2)) ∙ column.5)) in
      record {
        sound = turned_sound u n e along.sound now unlisted private;
        tables = along.tables;
        next = (let next = along.next in let more = count_behind is_entry earlier (Turn n) in omega (arith, next, more));
        from = λ m x at_m. elim (tells m n) [
          | inl p ↦ (let same : turned_back e ≡ x = some_same (sym (turned_here u e n own) ∙ ap (element_at (turned u (Some e))) (sym p.1) ∙ at_m) in
              Old e (ap (element_at v) p.1 ∙ at) (ap (λ (y : ElementDef). y.table) (sym same)) (ap (λ (y : ElementDef). y.name) (sym same)) (ap (λ (y : ElementDef). y.kind) (sym same)))
          | inr p ↦ from_longer v earlier (Turn n) m x (along.from m x (sym (turned_apart u (Some e) n m (λ f same. ap (λ (y : ElementDef). y.number) (sym (some_same same)) ∙ own) p.1) ∙ at_m))
        ];
        kept = λ m d at_m still.
            let two = unmoved earlier (Turn n) m still in
            turned_apart u (Some e) n m (λ f same. ap (λ (y : ElementDef). y.number) (sym (some_same same)) ∙ own) (λ is. not_both ((Decides-eqb n m).1 (sym is)) two.1)
            ∙ along.kept m d at_m two.0;
        counts = λ table index.
            let so_far = along.counts table index in
            let fewer = turned_count u n e along.sound now unlisted table index in
            let behind = count_behind (is_entry_like table index) earlier (Turn n) in
            omega (arith, so_far, fewer, behind);
      }

  along_more : (earlier later : List Move) (m : Move) → step ≡ earlier ++ m ∷ later → (u : Version) → Along v earlier u → Along v (earlier ++ m ∷ []) (after_move u m)
  along_more earlier later (Enter fresh to) split u along = along_entered earlier later fresh to split u along
  along_more earlier later (Go n to) split u along =
      let live = is_live v step allowed earlier later n to split (element_at v n) refl in
      let now = along.kept n live.0 live.1 (not_before v step allowed earlier later n (Go n to) split (its_go n to)) in
      subst (λ o. Along v (earlier ++ Go n to ∷ []) (moved u o to)) (sym now) (along_moved earlier later n to live.0 split live.1 u along now)
  along_more earlier later (Turn n) split u along =
      let live = is_live_back v step allowed earlier later n split (element_at v n) refl in
      let now = along.kept n live.0 live.1 (not_before v step allowed earlier later n (Turn n) split (its_turn n)) in
      subst (λ o. Along v (earlier ++ Turn n ∷ []) (turned u o)) (sym now) (along_turned earlier later n live.0 split live.1 u along now)

  along_all : (earlier moves : List Move) → step ≡ earlier ++ moves → (u : Version) → Along v earlier u → IsSoundVersion (after_step u moves)
  along_all earlier [] split u along = along.sound
  along_all earlier (m ∷ moves) split u along =
      along_all (earlier ++ m ∷ []) moves (split ∙ sym (append_assoc earlier (m ∷ []) moves)) (after_move u m) (along_more earlier moves m split u along)

  pub step_sound : IsSoundVersion (after_step v step)
  step_sound =
      along_all [] step refl v
      (record {
        sound = sound;
        tables = refl;
        next = sym (add-zero v.next);
        from = λ n e at. Old e at refl refl refl;
        kept = λ n d at still. at;
        counts = λ table index. omega arith;
      })

-- at what the code answers
pub sound_by : (v : Version) (step : List Move) → AreNumbered v → IsSoundVersion v → (r : Answer) → r ≡ step_check v step → OnOk r (IsSoundVersion (after_step v step))
sound_by v step numbered sound (Ok done) e = step_sound v step sound (step_allowed v step numbered (sym e))
sound_by v step numbered sound (Err fault) e = tt
