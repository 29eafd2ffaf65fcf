-- What is true of every version stays true when an element enters, goes to another state, or leaves.
use Rattle.std.proofs.Common.{◌≡◌, ◌≢◌, ℕ, ◌+◌, ◌<◌, ◌≤◌, Bool, true, false, cond, ◌&&◌, ◌==◌, ◌⊎◌, Some, inl, inr, refl, sym, ap, subst, ◌∙◌, arith, Contains}
use Rattle.std.specs.Prelude.{IsTrue}
use Rattle.std.specs.Ordering.{nat_cmp}
use Rattle.std.specs.FinMap as map
use Rattle.schema_version.specs.declared.element.ElementState.{ElementState}
use Rattle.schema_version.specs.declared.element.ElementState.TheVariants.{Absent, DeleteOnly, WriteOnly, Public}
use Rattle.schema_version.specs.declared.element.Way.TheVariants.{Adding}
use Rattle.schema_version.specs.declared.element.Kind.{Kind}
use Rattle.schema_version.specs.declared.element.Kind.TheVariants.{Index, Optional, Required}
use Rattle.schema_version.specs.declared.element.ElementDef.{ElementDef}
use Rattle.schema_version.specs.declared.element.NewElement.{NewElement}
use Rattle.schema_version.specs.Edges.{has_state}
use Rattle.schema_version.specs.Names.{IsName, max_elements}
use Rattle.schema_version.specs.Version.{Version, Table, table_at, element_at, live, is_like, is_index, indexed_columns, IsPublicColumn, IsKeyName, count_live}
use Rattle.schema_version.specs.Moves.{as_element, in_state, turned_back, entered, moved, turned, IsFairKind, max_like}
use Rattle.schema_version.specs.Sound.{IsSoundElement, HaveOwnNames, IsSoundVersion}
use Rattle.schema_version.proofs.Entries.{tells}
use Rattle.schema_version.proofs.Lists.{some_same}
use Rattle.schema_version.proofs.Changes.{inserted_here, inserted_apart, removed_here, removed_apart, none_there}
use Rattle.schema_version.proofs.Live.{element_at-lookup}
use Rattle.schema_version.proofs.Counts.{count_insert, count_change, count_remove}
use Rattle.schema_version.proofs.Declared.{both_true}
use Rattle.std.proofs.lemmas.Bool.Decides.{Decides-eqb}

-- what an element needs to enter a version
pub record MayEnter (version : Version) (fresh : NewElement) (to : ElementState) : Type 0 where
  pub room : version.next ≤ max_elements
  pub live : to ≢ Absent
  pub possible : IsTrue (has_state fresh.kind to)
  pub named : IsName fresh.name
  pub placed : (table : Table) × (table_at version fresh.table ≡ Some table)
  pub apart : ¬ (IsKeyName version fresh.table fresh.name)
  pub fair : IsFairKind fresh.kind
  pub columns : (column : ℕ) → Contains (indexed_columns fresh.kind) column → IsPublicColumn version fresh.table column
  pub free : (n : ℕ) (element : ElementDef) → element_at version n ≡ Some element → element.table ≡ fresh.table → element.name ≡ fresh.name → ⊥
  pub few : count_live version fresh.table (is_index fresh.kind) < max_like (is_index fresh.kind)

-- the tests of a kind
pub like_says : (index : Bool) (kind : Kind) → is_like index kind ≡ true → index ≡ is_index kind
like_says true (Index columns) e = refl
like_says true (Optional type) e = cc
like_says false (Index columns) e = cc
like_says false (Optional type) e = refl
like_says true (Required type fallback) e = cc
like_says false (Required type fallback) e = refl

pub counted_as : (table : ℕ) (index : Bool) (e : ElementDef) → ((e.table == table) && is_like index e.kind) ≡ true → (e.table ≡ table) × (index ≡ is_index e.kind)
counted_as table index e h = let p = both_true (e.table == table) (is_like index e.kind) h in ((Decides-eqb e.table table).0 p.0, like_says index e.kind p.1)

module _ (u : Version) (fresh : NewElement) (to : ElementState) (sound : IsSoundVersion u) (may : MayEnter u fresh to) where
  -- a column stays as it is
  column_stays : (t c : ℕ) → IsPublicColumn u t c → IsPublicColumn (entered u fresh to) t c
  column_stays t c (e, type, at, own, kind, public) =
      (e, type, inserted_apart u.elements u.next c (as_element u.next fresh to) (λ is. by is ((sound.elements c e at).given)) ∙ at, own, kind, public)
    where
      by : c ≡ u.next → c < u.next → ⊥
      by is lt = absurd (omega (arith, is, lt))

  stays : (n : ℕ) (e : ElementDef) → IsSoundElement u n e → IsSoundElement (entered u fresh to) n e
  stays n e s =
      record {
        own = s.own;
        first = s.first;
        given = (let lt = s.given in omega (arith, lt));
        live = s.live;
        possible = s.possible;
        way = s.way;
        named = s.named;
        placed = s.placed;
        apart = s.apart;
        fair = s.fair;
        columns = λ c there. column_stays e.table c (s.columns c there);
      }

  enters : IsSoundElement (entered u fresh to) u.next (as_element u.next fresh to)
  enters =
      record {
        own = refl;
        first = sound.begun;
        given = omega arith;
        live = may.live;
        possible = may.possible;
        way = λ _. refl;
        named = may.named;
        placed = may.placed;
        apart = may.apart;
        fair = may.fair;
        columns = λ c there. column_stays fresh.table c (may.columns c there);
      }

  -- an element of the new version is the one that entered, or one of the old version
  old_or_new : (n : ℕ) (e : ElementDef) → element_at (entered u fresh to) n ≡ Some e → ((n ≡ u.next) × (as_element u.next fresh to ≡ e)) ⊎ (element_at u n ≡ Some e)
  old_or_new n e at =
      elim (tells n u.next) [
        | inl p ↦ inl (p.1, some_same (sym (inserted_here u.elements u.next n (as_element u.next fresh to) p.1) ∙ at))
        | inr p ↦ inr (sym (inserted_apart u.elements u.next n (as_element u.next fresh to) p.1) ∙ at)
      ]

  elements_stay : (n : ℕ) (e : ElementDef) → element_at (entered u fresh to) n ≡ Some e → IsSoundElement (entered u fresh to) n e
  elements_stay n e at =
      elim (old_or_new n e at) [
        | inl p ↦ subst (IsSoundElement (entered u fresh to) n) p.1 (subst (λ k. IsSoundElement (entered u fresh to) k (as_element u.next fresh to)) (sym p.0) enters)
        | inr old ↦ stays n e (sound.elements n e old)
      ]

  names_stay : HaveOwnNames (entered u fresh to)
  names_stay m n d e at_m at_n table name =
      elim (old_or_new m d at_m) [
        | inl p ↦ (elim (old_or_new n e at_n) [
          | inl q ↦ p.0 ∙ sym q.0
          | inr old ↦ absurd (may.free n e old (sym table ∙ sym (ap (λ (x : ElementDef). x.table) p.1)) (sym name ∙ sym (ap (λ (x : ElementDef). x.name) p.1)))
        ])
        | inr was ↦ (elim (old_or_new n e at_n) [
          | inl q ↦ absurd (may.free m d was (table ∙ sym (ap (λ (x : ElementDef). x.table) q.1)) (name ∙ sym (ap (λ (x : ElementDef). x.name) q.1)))
          | inr old ↦ sound.names m n d e was old table name
        ])
      ]

  counts_stay : (table : ℕ) (index : Bool) → count_live (entered u fresh to) table index ≤ max_like index
  counts_stay table index =
      by ((fresh.table == table) && is_like index fresh.kind) refl (count_insert (λ (e : ElementDef). (e.table == table) && is_like index e.kind) u.elements u.next (as_element u.next fresh to))
    where
      by : (b : Bool) → ((fresh.table == table) && is_like index fresh.kind) ≡ b → count_live (entered u fresh to) table index ≤ count_live u table index + cond ((fresh.table == table) && is_like index fresh.kind) 1 0
          → count_live (entered u fresh to) table index ≤ max_like index
      by true is more =
          let reported = counted_as table index (as_element u.next fresh to) is in
          let room : count_live u table index < max_like index = subst (λ t. count_live u t index < max_like index) reported.0 (subst (λ i. count_live u fresh.table i < max_like i) (sym reported.1) may.few) in
          let one : ◌≡◌ {A = ℕ} (cond ((fresh.table == table) && is_like index fresh.kind) 1 0) 1 = ap (λ (c : Bool). cond c 1 0) is in
          omega (arith, room, one, more)
      by false is more =
          let room = sound.counts table index in
          let none : ◌≡◌ {A = ℕ} (cond ((fresh.table == table) && is_like index fresh.kind) 1 0) 0 = ap (λ (c : Bool). cond c 1 0) is in
          omega (arith, room, none, more)

  pub enter_sound : IsSoundVersion (entered u fresh to)
  enter_sound =
      record {
        begun = omega arith;
        few_elements = (let room = may.room in omega (arith, room));
        some_tables = sound.some_tables;
        few_tables = sound.few_tables;
        tables = sound.tables;
        table_names = sound.table_names;
        elements = elements_stay;
        names = names_stay;
        counts = counts_stay;
      }

-- an element that goes to another state: no live index lists it, and what else it is stays
pub record Follows (version : Version) (number : ℕ) (element : ElementDef) : Type 0 where
  pub old : ElementDef
  pub at : element_at version number ≡ Some old
  pub own : element.number ≡ old.number
  pub table : element.table ≡ old.table
  pub name : element.name ≡ old.name
  pub kind : element.kind ≡ old.kind
  pub live : element.state ≢ Absent
  pub possible : IsTrue (has_state element.kind element.state)
  pub way : element.state ≡ Public → element.way ≡ Adding

-- the same tables and elements but for one, which went on or left
module _ (u : Version) (after : map.FinMap nat_cmp ElementDef) (n : ℕ) (sound : IsSoundVersion u)
    (unlisted : (m : ℕ) (index : ElementDef) → element_at u m ≡ Some index → ¬ (Contains (indexed_columns index.kind) n))
    (same : (m : ℕ) → m ≢ n → map.get after m ≡ map.get u.elements m)
    (goes : (e : ElementDef) → map.get after n ≡ Some e → Follows u n e)
    (fewer : (table : ℕ) (index : Bool) → count_live (record u { elements = after }) table index ≤ count_live u table index) where
  abbrev then : Version
  then = record u { elements = after }

  column_apart : (t c : ℕ) → c ≢ n → IsPublicColumn u t c → IsPublicColumn then t c
  column_apart t c apart (e, type, at, own, kind, public) = (e, type, same c apart ∙ at, own, kind, public)

  -- each element was there under its number, table and name
  was : (m : ℕ) (e : ElementDef) → element_at then m ≡ Some e → (d : ElementDef) × (element_at u m ≡ Some d) × (e.number ≡ d.number) × (e.table ≡ d.table) × (e.name ≡ d.name) × (e.kind ≡ d.kind)
  was m e at =
      elim (tells m n) [
        | inl p ↦ (let f = goes e (ap (map.get after) (sym p.1) ∙ at) in (f.old, ap (map.get u.elements) p.1 ∙ f.at, f.own, f.table, f.name, f.kind))
        | inr p ↦ (e, sym (same m p.1) ∙ at, refl, refl, refl, refl)
      ]

  states : (m : ℕ) (e : ElementDef) → element_at then m ≡ Some e → (e.state ≢ Absent) × IsTrue (has_state e.kind e.state) × (e.state ≡ Public → e.way ≡ Adding)
  states m e at =
      elim (tells m n) [
        | inl p ↦ (let f = goes e (ap (map.get after) (sym p.1) ∙ at) in (f.live, f.possible, f.way))
        | inr p ↦ (let s = sound.elements m e (sym (same m p.1) ∙ at) in (s.live, s.possible, s.way))
      ]

  still : (m : ℕ) (e : ElementDef) → element_at then m ≡ Some e → IsSoundElement then m e
  still m e at =
      let w = was m e at in
      let d = w.0 in
      let s = sound.elements m d w.1 in
      let st = states m e at in
      record {
        own = w.2 ∙ s.own;
        first = s.first;
        given = s.given;
        live = st.0;
        possible = st.1;
        way = st.2;
        named = subst IsName (sym w.4) s.named;
        placed = subst (λ t. (table : Table) × (table_at u t ≡ Some table)) (sym w.3) s.placed;
        apart = λ taken. s.apart (subst (λ name. IsKeyName u d.table name) w.4 (subst (λ t. IsKeyName u t e.name) w.3 taken));
        fair = subst IsFairKind (sym w.5) s.fair;
        columns = λ c there.
            let there_too : Contains (indexed_columns d.kind) c = subst (λ k. Contains (indexed_columns k) c) w.5 there in
            subst (λ t. IsPublicColumn then t c) (sym w.3)
            (column_apart d.table c (λ is. unlisted m d w.1 (subst (λ k. Contains (indexed_columns d.kind) k) is there_too)) (s.columns c there_too));
      }

  own_names : HaveOwnNames then
  own_names m k d e at_m at_k table name =
      let a = was m d at_m in
      let b = was k e at_k in
      sound.names m k a.0 b.0 a.1 b.1 (sym a.3 ∙ table ∙ b.3) (sym a.4 ∙ name ∙ b.4)

  pub kept_sound : IsSoundVersion then
  kept_sound =
      record {
        begun = sound.begun;
        few_elements = sound.few_elements;
        some_tables = sound.some_tables;
        few_tables = sound.few_tables;
        tables = sound.tables;
        table_names = sound.table_names;
        elements = still;
        names = own_names;
        counts = λ table index. (let few = fewer table index in let most = sound.counts table index in omega (arith, few, most));
      }

-- an element that goes to a state or turns back, where no live index lists it
module _ (u : Version) (n : ℕ) (e : ElementDef) (sound : IsSoundVersion u) (at : element_at u n ≡ Some e)
    (unlisted : (m : ℕ) (index : ElementDef) → element_at u m ≡ Some index → ¬ (Contains (indexed_columns index.kind) n)) where
  own_number : e.number ≡ n
  own_number = (sound.elements n e at).own

  -- another definition under its number, of its table and kind
  changed_count : (x : ElementDef) → ((table : ℕ) (index : Bool) → ((x.table == table) && is_like index x.kind) ≡ ((e.table == table) && is_like index e.kind))
      → (table : ℕ) (index : Bool) → count_live (record u { elements = map.insert u.elements e.number x }) table index ≤ count_live u table index
  changed_count x alike table index =
      let same = count_change (λ (y : ElementDef). (y.table == table) && is_like index y.kind) u.elements e.number x e (sym (element_at-lookup u e.number) ∙ ap (element_at u) own_number ∙ at) (alike table index) in
      omega (arith, same)

  changed_sound : (x : ElementDef) → ((table : ℕ) (index : Bool) → ((x.table == table) && is_like index x.kind) ≡ ((e.table == table) && is_like index e.kind)) → Follows u n x → IsSoundVersion (record u { elements = map.insert u.elements e.number x })
  changed_sound x alike follows =
      kept_sound u (map.insert u.elements e.number x) n sound unlisted
      (λ m apart. inserted_apart u.elements e.number m x (λ is. apart (is ∙ own_number)))
      (λ y is. subst (Follows u n) (some_same (sym (inserted_here u.elements e.number n x (sym own_number)) ∙ is)) follows)
      (changed_count x alike)

  gone_sound : (to : ElementState) → to ≢ Absent → IsTrue (has_state e.kind to) → (to ≡ Public → (in_state e to).way ≡ Adding) → IsSoundVersion (record u { elements = map.insert u.elements e.number (in_state e to) })
  gone_sound to live possible way =
      changed_sound (in_state e to) (λ table index. refl) (record { old = e; at = at; own = refl; table = refl; name = refl; kind = refl; live = live; possible = possible; way = way })

  pub turned_sound : e.state ≢ Public → IsSoundVersion (turned u (Some e))
  turned_sound private =
      changed_sound (turned_back e) (λ table index. refl)
      (record { old = e; at = at; own = refl; table = refl; name = refl; kind = refl; live = (sound.elements n e at).live; possible = (sound.elements n e at).possible; way = λ public. absurd (private public) })

  pub turned_count : (table : ℕ) (index : Bool) → count_live (turned u (Some e)) table index ≤ count_live u table index
  turned_count table index = changed_count (turned_back e) (λ t i. refl) table index

  removed_sound : IsSoundVersion (record u { elements = map.remove u.elements e.number })
  removed_sound =
      kept_sound u (map.remove u.elements e.number) n sound unlisted
      (λ m apart. removed_apart u.elements e.number m (λ is. apart (is ∙ own_number)))
      (λ x is. absurd (none_there x (map.get (map.remove u.elements e.number) n) (removed_here u.elements e.number n (sym own_number)) is))
      (λ table index. count_remove (λ (x : ElementDef). (x.table == table) && is_like index x.kind) u.elements e.number)

  pub moved_sound : (to : ElementState) → IsTrue (has_state e.kind to) → (to ≡ Public → (in_state e to).way ≡ Adding) → IsSoundVersion (moved u (Some e) to)
  moved_sound Absent possible way = removed_sound
  moved_sound DeleteOnly possible way = gone_sound DeleteOnly (λ is. cc) possible way
  moved_sound WriteOnly possible way = gone_sound WriteOnly (λ is. cc) possible way
  moved_sound Public possible way = gone_sound Public (λ is. cc) possible way

  pub moved_count : (to : ElementState) (table : ℕ) (index : Bool) → count_live (moved u (Some e) to) table index ≤ count_live u table index
  moved_count Absent table index = count_remove (λ (x : ElementDef). (x.table == table) && is_like index x.kind) u.elements e.number
  moved_count DeleteOnly table index = changed_count (in_state e DeleteOnly) (λ t i. refl) table index
  moved_count WriteOnly table index = changed_count (in_state e WriteOnly) (λ t i. refl) table index
  moved_count Public table index = changed_count (in_state e Public) (λ t i. refl) table index
