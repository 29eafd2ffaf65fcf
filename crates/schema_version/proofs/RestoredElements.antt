-- The tests of a version's live elements decide what is true of those of a sound version.
use Rattle.std.proofs.Common.{◌≡◌, ◌≢◌, ℕ, zero, suc, ◌+◌, ◌-◌, ◌<◌, ◌≤◌, Bool, true, false, not, ◌&&◌, ◌==◌, List, [], ◌∷◌, length, Option, Some, None, inl, inr, refl, sym, ap, subst, ◌∙◌, arith, if◌then◌else◌, nat_eq, Contains, is_some, count_by}
use Rattle.std.specs.Prelude.{IsTrue, slice_get}
use Rattle.std.specs.Bool.{Decides}
use Rattle.std.specs.List.{list_any, list_all, find}
use Rattle.std.specs.Ordering.{nat_cmp}
use Rattle.std.specs.Map.{lookup, values_of}
use Rattle.std.specs.FinMap as map
use Rattle.std.proofs.lemmas.Bool.Decides.{Decides-and, Decides-like, Decides-eqb, eqb_tells}
use Rattle.std.proofs.lemmas.Option.{slice_get_within}
use Rattle.row_map.specs.declared.shape.ColumnType.{ColumnType}
use Rattle.schema_version.specs.declared.element.ElementState.{ElementState}
use Rattle.schema_version.specs.declared.element.ElementState.TheVariants.{Absent, DeleteOnly, WriteOnly, Public}
use Rattle.schema_version.specs.declared.element.Way.{Way}
use Rattle.schema_version.specs.declared.element.Way.TheVariants.{Adding, Dropping}
use Rattle.schema_version.specs.declared.element.ElementDef.{ElementDef}
use Rattle.schema_version.specs.Names.{IsName, is_name}
use Rattle.schema_version.specs.Edges.{is_filled, state_by}
use Rattle.schema_version.specs.Columns.{is_shown, type_in, column_type}
use Rattle.schema_version.specs.Version.{Version, Table, table_at, element_at, live, is_public, is_like, is_named, indexed_columns, type_of_kind, IsPublicColumn, IsKeyName, count_live}
use Rattle.schema_version.specs.Moves.{IsFairKind, max_like}
use Rattle.schema_version.specs.Checks.{is_fair_kind}
use Rattle.schema_version.specs.Sound.{HaveOwnNames}
use Rattle.schema_version.specs.Restored.{Part, AreRising, numbered, version_with}
use Rattle.schema_version.specs.inner.RestoreTests.{part_at, is_placed, is_in_room, have_room, may_stand, key_lacks, has_columns, is_fair_element, have_own_names}
use Rattle.schema_version.proofs.Decides.{word, at_most, fair_kind, named, public}
use Rattle.schema_version.proofs.Entries.{map_get, All-found}
use Rattle.schema_version.proofs.Lists.{here, later, here_or_later, all_says, all_fails, any_says, any_from, some_same, not_both}
use Rattle.schema_version.proofs.Live.{among_values, from_values, first_is_least, none_passes, IsLeast}
use Rattle.schema_version.proofs.Counts.{count_none}
use Rattle.schema_version.proofs.DeclaredSound.{all_has}
use Rattle.schema_version.proofs.Rising.{sorted_of, values_numbered, all_numbered}
use Rattle.schema_version.proofs.RestoredTables.{lacks}

-- a test of each element of a list
pub all_of_them : {X : Type 0} (test : X → Bool) (P : X → Type 0) → ((x : X) → Decides (test x) (P x)) → (xs : List X) → Decides (list_all test xs) ((x : X) → Contains xs x → P x)
all_of_them {X} test P d xs = (λ e x there. (d x).0 (all_says test xs x e there), λ h. by (list_all test xs) refl h)
  where
    by : (b : Bool) → list_all test xs ≡ b → ((x : X) → Contains xs x → P x) → b ≡ true
    by true is h = refl
    by false is h = let r = all_fails test xs is in absurd (not_both ((d r.0).1 (h r.0 r.1)) r.2)

-- ---- states

abbrev pub Stands : Bool → ElementState → Way → Type 0
Stands filled state way = (state ≢ Absent) × (IsTrue (state_by filled state) × (state ≡ Public → way ≡ Adding))

stands : (filled : Bool) (state : ElementState) (way : Way) → Decides (may_stand filled state way) (Stands filled state way)
stands filled Absent way = (λ e. cc, λ h. absurd (h.0 refl))
stands true DeleteOnly way = (λ e. (λ p. cc, (refl, λ p. cc)), λ h. refl)
stands false DeleteOnly way = (λ e. (λ p. cc, (refl, λ p. cc)), λ h. refl)
stands true WriteOnly way = (λ e. (λ p. cc, (refl, λ p. cc)), λ h. refl)
stands false WriteOnly way = (λ e. cc, λ h. h.1.0)
stands true Public Adding = (λ e. (λ p. cc, (refl, λ p. refl)), λ h. refl)
stands false Public Adding = (λ e. (λ p. cc, (refl, λ p. refl)), λ h. refl)
stands true Public Dropping = (λ e. cc, λ h. (let wrong : Dropping ≡ Adding = h.1.1 refl in cc))
stands false Public Dropping = (λ e. cc, λ h. (let wrong : Dropping ≡ Adding = h.1.1 refl in cc))

module _ (ts : List Part) (es : List ElementDef) (next : ℕ) (up : AreRising es) where
  abbrev Whole : Version
  Whole = version_with ts es next

  -- ---- elements by number

  at-lookup : (n : ℕ) → element_at Whole n ≡ lookup (nat_eq n) (numbered es)
  at-lookup n = map_get (numbered es) n (sorted_of es up)

  own_number : (n : ℕ) (e : ElementDef) → element_at Whole n ≡ Some e → e.number ≡ n
  own_number n e at = All-found (λ (f : ℕ × ElementDef). f.1.number ≡ f.0) n e (numbered es) (all_numbered es) (sym (at-lookup n) ∙ at)

  pub at_from : (n : ℕ) (e : ElementDef) → element_at Whole n ≡ Some e → Contains es e × (e.number ≡ n)
  at_from n e at = (subst (λ l. Contains l e) (values_numbered es) (among_values n (numbered es) e (sym (at-lookup n) ∙ at)), own_number n e at)

  pub at_to : (e : ElementDef) → Contains es e → element_at Whole e.number ≡ Some e
  at_to e there =
      let r = from_values (numbered es) e (sorted_of es up) (subst (λ l. Contains l e) (sym (values_numbered es)) there) in
      let at : element_at Whole r.0 ≡ Some e = at-lookup r.0 ∙ r.1 in
      subst (λ n. element_at Whole n ≡ Some e) (sym (own_number r.0 e at)) at

  pub live_is : live Whole ≡ es
  live_is = ap values_of (map.entries-from_sorted nat_cmp (numbered es) (sorted_of es up)) ∙ values_numbered es

  -- ---- listed columns

  shown : (t n : ℕ) (e : ElementDef) → Decides (is_shown t n e) ((e.number ≡ n) × ((e.table ≡ t) × (e.state ≡ Public)))
  shown t n e =
      Decides-and (e.number == n) ((e.table == t) && is_public e.state) (Decides-eqb e.number n)
      (Decides-and (e.table == t) (is_public e.state) (Decides-eqb e.table t) (public e.state))

  typed : (o : Option ColumnType) → is_some o ≡ true → (type : ColumnType) × (o ≡ Some type)
  typed None e = cc
  typed (Some type) e = (type, refl)

  column : (t n : ℕ) → Decides (is_some (column_type es t n)) (IsPublicColumn Whole t n)
  column t n = by (find (is_shown t n) es) refl
    where
      by : (o : Option ElementDef) → find (is_shown t n) es ≡ o → Decides (is_some (type_in o)) (IsPublicColumn Whole t n)
      by None none = (
        λ e. cc,
        λ (e, type, at, own, kind, state). absurd (none_passes (is_shown t n) (numbered es) n e (ap (find (is_shown t n)) (values_numbered es) ∙ none) (sym (at-lookup n) ∙ at) ((shown t n e).1 (own_number n e at, (own, state)))),
      )
      by (Some f) found =
          let r : IsLeast (is_shown t n) (numbered es) f = first_is_least (is_shown t n) (numbered es) f (sorted_of es up) (ap (find (is_shown t n)) (values_numbered es) ∙ found) in
          let passes = (shown t n f).0 r.passes in
          let there : element_at Whole r.number ≡ Some f = at-lookup r.number ∙ r.found in
          let at : element_at Whole n ≡ Some f = subst (λ m. element_at Whole m ≡ Some f) (sym (own_number r.number f there) ∙ passes.0) there in (
            λ e. (let type = typed (type_of_kind f.kind) e in (f, type.0, at, passes.1.0, type.1, passes.1.1)),
            λ (e, type, at_e, own, kind, state). ap is_some (ap (λ (x : ElementDef). type_of_kind x.kind) (some_same (sym at ∙ at_e)) ∙ kind),
          )

  -- ---- one element

  abbrev pub IsFair : ElementDef → Type 0
  IsFair e =
      Stands (is_filled e.kind) e.state e.way
      × (IsName e.name
      × ((((table : Table) × (table_at Whole e.table ≡ Some table)) × (¬ (IsKeyName Whole e.table e.name)))
      × (IsFairKind e.kind
      × ((n : ℕ) → Contains (indexed_columns e.kind) n → IsPublicColumn Whole e.table n))))

  pub fair_element : (e : ElementDef) → Decides (is_fair_element ts es e) (IsFair e)
  fair_element e =
      let lacking = key_lacks (part_at ts e.table) e.name in
      let kind = is_fair_kind e.kind in
      let columns = has_columns es e in
      Decides-and (may_stand (is_filled e.kind) e.state e.way) (is_name e.name && (lacking && (kind && columns))) (stands (is_filled e.kind) e.state e.way)
      (Decides-and (is_name e.name) (lacking && (kind && columns)) (word e.name)
      (Decides-and lacking (kind && columns) (lacks ts es next e.table e.name)
      (Decides-and kind columns (fair_kind e.kind)
      (all_of_them (λ n. is_some (column_type es e.table n)) (IsPublicColumn Whole e.table) (column e.table) (indexed_columns e.kind)))))

  -- ---- names

  -- each element of the list has another name than those after it in its table
  pub NamesApart : List ElementDef → Type 0
  NamesApart [] = Unit {0}
  NamesApart (e ∷ rest) = ((f : ElementDef) → Contains rest f → ¬ ((f.table ≡ e.table) × (f.name ≡ e.name))) × NamesApart rest

  none_named : (e : ElementDef) (rest : List ElementDef) → Decides (not (list_any (is_named e.table e.name) rest)) ((f : ElementDef) → Contains rest f → ¬ ((f.table ≡ e.table) × (f.name ≡ e.name)))
  none_named e rest = by (list_any (is_named e.table e.name) rest) refl
    where
      by : (b : Bool) → list_any (is_named e.table e.name) rest ≡ b → Decides (not b) ((f : ElementDef) → Contains rest f → ¬ ((f.table ≡ e.table) × (f.name ≡ e.name)))
      by true is = (λ no. cc, λ h. (let r = any_says (is_named e.table e.name) rest is in absurd (h r.0 r.1 ((named e.table e.name r.0).0 r.2))))
      by false is = (λ no f there same. not_both (any_from (is_named e.table e.name) rest f there ((named e.table e.name f).1 same)) is, λ h. refl)

  pub names_apart : (list : List ElementDef) → Decides (have_own_names list) (NamesApart list)
  unfolding NamesApart
  names_apart [] = (λ e. tt, λ h. refl)
  names_apart (e ∷ rest) = Decides-and (not (list_any (is_named e.table e.name) rest)) (have_own_names rest) (none_named e rest) (names_apart rest)

  same_element : (list : List ElementDef) → NamesApart list → (f g : ElementDef) → Contains list f → Contains list g → f.table ≡ g.table → f.name ≡ g.name → f ≡ g
  unfolding NamesApart
  same_element [] apart f g (k, below, is) at_g table name = absurd (omega (arith, below))
  same_element (e ∷ rest) apart f g at_f at_g table name =
      elim (here_or_later e f rest at_f) [
        | inl is_f ↦ elim (here_or_later e g rest at_g) [
          | inl is_g ↦ sym is_f ∙ is_g
          | inr more_g ↦ absurd (apart.0 g more_g (sym table ∙ ap (λ (x : ElementDef). x.table) (sym is_f), sym name ∙ ap (λ (x : ElementDef). x.name) (sym is_f)))
        ]
        | inr more_f ↦ elim (here_or_later e g rest at_g) [
          | inl is_g ↦ absurd (apart.0 f more_f (table ∙ ap (λ (x : ElementDef). x.table) (sym is_g), name ∙ ap (λ (x : ElementDef). x.name) (sym is_g)))
          | inr more_g ↦ same_element rest apart.1 f g more_f more_g table name
        ]
      ]

  pub own_names : NamesApart es → HaveOwnNames Whole
  own_names apart m n first second at_m at_n table name =
      let one = at_from m first at_m in
      let two = at_from n second at_n in
      sym one.1 ∙ ap (λ (x : ElementDef). x.number) (same_element es apart first second one.0 two.0 table name) ∙ two.1

  apart_from : (list : List ElementDef) → AreRising list → ((f : ElementDef) → Contains list f → Contains es f) → HaveOwnNames Whole → NamesApart list
  unfolding NamesApart
  apart_from [] rise inside own = tt
  apart_from (e ∷ rest) rise inside own = (
    λ f there same. (let lt : e.number < f.number = all_has (λ (x : ElementDef). e.number < x.number) rest f rise.0 there in
        let equal : f.number ≡ e.number = own f.number e.number f e (at_to f (inside f (later e f rest there))) (at_to e (inside e (here e rest))) same.0 same.1 in
        omega (arith, lt, equal)),
    apart_from rest rise.1 (λ f there. inside f (later e f rest there)) own,
  )

  pub apart_names : HaveOwnNames Whole → NamesApart es
  apart_names own = apart_from es up (λ f there. there) own

  -- ---- counts

  abbrev counted : ℕ → Bool → ℕ
  counted table index = count_by (λ (e : ElementDef). (e.table == table) && is_like index e.kind) es

  room_in : (table : ℕ) (index : Bool) → Decides (is_in_room es table index) (counted table index ≤ max_like index)
  room_in table index = at_most (counted table index) (max_like index)

  HasRoom : ℕ → List Part → Type 0
  HasRoom n list = (k : ℕ) → k < length list → (index : Bool) → counted (n + k) index ≤ max_like index

  room : (n : ℕ) (list : List Part) → Decides (have_room n list es) (HasRoom n list)
  unfolding HasRoom
  room n [] = (λ e k lt index. absurd (omega (arith, lt)), λ h. refl)
  room n (t ∷ list) =
      Decides-like (have_room n (t ∷ list) es)
      (λ (columns, (indexes, rest)). first columns indexes rest)
      (λ h. (
        subst (λ m. counted m false ≤ max_like false) (omega arith) (h 0 (omega arith) false),
        (subst (λ m. counted m true ≤ max_like true) (omega arith) (h 0 (omega arith) true), λ k lt index. subst (λ m. counted m index ≤ max_like index) (omega arith) (h (suc k) (omega (arith, lt)) index)),
      ))
      (Decides-and (is_in_room es n false) (is_in_room es n true && have_room (n + 1) list es) (room_in n false)
      (Decides-and (is_in_room es n true) (have_room (n + 1) list es) (room_in n true) (room (n + 1) list)))
    where
      first : counted n false ≤ max_like false → counted n true ≤ max_like true → HasRoom (n + 1) list → HasRoom n (t ∷ list)
      first columns indexes rest zero lt true = subst (λ m. counted m true ≤ max_like true) (omega arith) indexes
      first columns indexes rest zero lt false = subst (λ m. counted m false ≤ max_like false) (omega arith) columns
      first columns indexes rest (suc k) lt index = subst (λ m. counted m index ≤ max_like index) (omega arith) (rest k (omega (arith, lt)) index)

  count_is : (table : ℕ) (index : Bool) → count_live Whole table index ≡ counted table index
  count_is table index = ap (count_by (λ (e : ElementDef). (e.table == table) && is_like index e.kind)) live_is

  -- a table that is not there has no elements
  none_of : (table : ℕ) (index : Bool) → list_all (is_placed ts) es ≡ true → part_at ts table ≡ None → counted table index ≡ 0
  none_of table index placed missing =
      ap (count_by (λ (e : ElementDef). (e.table == table) && is_like index e.kind)) (sym (values_numbered es))
      ∙ count_none (λ (e : ElementDef). (e.table == table) && is_like index e.kind) (numbered es) (λ e there.
      elim (eqb_tells e.table table) [
        | inl p ↦ (let found : is_some (part_at ts table) ≡ true = subst (λ n. is_some (part_at ts n) ≡ true) p.1 (all_says (is_placed ts) es e placed (subst (λ l. Contains l e) (values_numbered es) there)) in absurd (not_both found (ap is_some missing)))
        | inr p ↦ ap (λ b. b && is_like index e.kind) p.0
      ])

  place_of : (table : ℕ) (part : Part) → part_at ts table ≡ Some part → (1 ≤ table) × (table - 1 < length ts)
  place_of table part at =
      elim (eqb_tells table 0) [
        | inl p ↦ (let wrong : None ≡ Some part = sym (ap (λ b. if b then None else slice_get ts (table - 1)) p.0) ∙ at in cc)
        | inr p ↦ (omega (arith, p.1), slice_get_within ts (table - 1) part (sym (ap (λ b. if b then None else slice_get ts (table - 1)) p.0) ∙ at))
      ]

  pub counts_of : list_all (is_placed ts) es ≡ true → have_room 1 ts es ≡ true → (table : ℕ) (index : Bool) → count_live Whole table index ≤ max_like index
  unfolding HasRoom
  counts_of placed has table index = by (part_at ts table) refl
    where
      by : (o : Option Part) → part_at ts table ≡ o → count_live Whole table index ≤ max_like index
      by None missing = (let none = count_is table index ∙ none_of table index placed missing in omega (arith, none))
      by (Some part) at =
          let place = place_of table part at in
          let most = (room 1 ts).0 has (table - 1) place.1 index in
          let same : 1 + (table - 1) ≡ table = omega (arith, place.0) in
          subst (λ n. n ≤ max_like index) (sym (count_is table index)) (subst (λ m. counted m index ≤ max_like index) same most)

  pub room_from : ((table : ℕ) (index : Bool) → count_live Whole table index ≤ max_like index) → have_room 1 ts es ≡ true
  unfolding HasRoom
  room_from counts = (room 1 ts).1 (λ k lt index. subst (λ n. n ≤ max_like index) (count_is (1 + k) index) (counts (1 + k) index))
