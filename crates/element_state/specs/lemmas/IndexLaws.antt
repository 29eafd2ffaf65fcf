-- Cited by proofs and by the specs that need them: Kinds, RequiredLaws, ColumnLaws, ExistsLaws.
-- The laws of an index.
use Rattle.std.specs.Prelude.{◌≡◌, ◌<◌, ◌≤◌, ◌^◌, ℕ, suc, Bool, true, false, IsTrue, unwrap_or, List, [], ◌∷◌, ◌++◌, length, drop, Option, Some, None, cond, refl}
use Rattle.std.specs.FinMap.{get}
use Rattle.std.specs.Cmp.{Equal-is}
use Rattle.std.proofs.Common.{ap₂, true≢false, sym, ap, ◌∙◌, inl, inr}
use Rattle.std.proofs.Math.Nat.{add-le-add}
use Rattle.std.proofs.lemmas.List.{length-append, drop_at}
use mathlib.Core.List.{map as each}
use Rattle.keycode.specs.declared.value.Value.{Value}
use Rattle.keycode.specs.Order.{bytes_cmp}
use Rattle.keycode.specs.Valid.{IsValue, IsShort, AreValues, AreShort, IsStorable}
use Rattle.keycode.proofs.Orders.{bytes_cmp-IsAntisymmetric}
use Rattle.collections.proofs.Steps.{AllByRecursion-append}
use Rattle.row_map.specs.declared.key.KeyOf.{KeyOf}
use Rattle.row_map.specs.declared.key.KeyOf.TheVariants.{Exists, Column, Index}
use Rattle.row_map.specs.Keys.{index_code, IsKey}
use Rattle.row_map.specs.Rows.{Bytes, RowKey, Cells, Pairs, IsStorableRow}
use Rattle.row_map.specs.Writes.{written, written_all, AllKeys}
use Rattle.row_map.proofs.KeyLaws.{same_key}
use Rattle.schema_version.specs.declared.element.ElementState.{ElementState}
use Rattle.schema_version.specs.declared.element.ElementState.TheVariants.{Absent, DeleteOnly, WriteOnly, Public}
use Rattle.element_state.specs.Elements.{Alike, Change, ChangesPublicOnly, IsStorableChange, IsKeyOfElement, Meaning}
use Rattle.element_state.specs.Laws.{pairs_after, Grows, IsLive, Laws, BesideOne}
use Rattle.element_state.specs.lemmas.Effects.{Effect, Stays, Gone, Came, KindFacts, bytes_one, pair_here, pair_apart}
use Rattle.element_state.specs.Tables.{HasOneRowIn, table_laws}
use Rattle.element_state.specs.Index.{indexed, index_pair, same_bytes, moved, index_by, index_writes, index_exact, index_edge, index_meaning, index_of, IsLawfulIndex, value_in}
use Rattle.std.specs.Prelude.{◌≡◌, ℕ, ◌+◌, ◌<◌, ◌^◌, Bool, true, false, ◌&&◌, cond, List, [], ◌∷◌, ◌++◌, Some, None, filter, refl}
use Rattle.std.specs.List.{AllByRecursion}
use Rattle.std.specs.FinMap.{get, find, entries, get-entries}
use Rattle.std.proofs.Common.{sym, ap, subst, ◌∙◌, inl, inr}
use Rattle.keycode.proofs.Orders.{bytes_cmp_total, bytes_cmp-IsAntisymmetric}
use Rattle.row_map.specs.Keys.{key_code, IsKey}
use Rattle.row_map.specs.Rows.{Bytes, RowKey, Cells, Rows, Pairs, AreStorable, IsStorableRow}
use Rattle.row_map.specs.Ranges.{is_within, index_prefix}
use Rattle.byte_map.proofs.Written.{same_or_apart, apart}
use Rattle.row_map.proofs.Entries.{each_entry}
use Rattle.row_map.proofs.Ranges.{index_not_before, index_before_next, index_number, row_no_index}
use Rattle.element_state.specs.Elements.{HasForm, IsKeyOfElement, AreFormed, owner, IsFromScratch, Subset}
use Rattle.element_state.specs.Items.{IsIn, Between, ClearFacts}
use Rattle.element_state.specs.lemmas.Clears.{both_true, left_true, test_between, between_test}
use Rattle.element_state.specs.Index.{index_items, index_clear}
use Rattle.element_state.specs.lemmas.Apart.{below_next, false_true, none_some, some_one}

pub no_test : IsTrue false → ⊥
no_test e = false_true e

pub yes_test : IsTrue true
yes_test = refl

same_from_test : (x y : Bytes) → same_bytes x y ≡ true → x ≡ y
same_from_test x y e = bytes_cmp-IsAntisymmetric x y ((Equal-is (bytes_cmp x y)).0 e)

pub removed : (P : Pairs) (k x v : Bytes) → get (written P k None) x ≡ Some v → get P x ≡ Some v
removed P k x v is = elim (bytes_one x k) [
  | inl e ↦ absurd (none_some v (sym (pair_here P k None) ∙ ap (get (written P k None)) (sym e) ∙ is))
  | inr ne ↦ sym (pair_apart P k None x ne) ∙ is
]

module _ (n : ℕ) (columns : List (ℕ × Value)) where
  owned_by : (puts : Bool) (k : RowKey) (old new : Option Cells) → ((r : Cells) → old ≡ Some r → IsKeyOfElement n (index_pair n columns k r)) → ((r : Cells) → new ≡ Some r → IsKeyOfElement n (index_pair n columns k r))
      → AllKeys (IsKeyOfElement n) (index_by n columns puts k old new)
  owned_by puts k None None p q = tt
  owned_by true k None (Some r) p q = (q r refl, tt)
  owned_by false k None (Some r) p q = tt
  owned_by puts k (Some o) None p q = (p o refl, tt)
  owned_by true k (Some o) (Some r) p q = elim (same_bytes (index_pair n columns k o) (index_pair n columns k r)) as (λ t. AllKeys (IsKeyOfElement n) (cond t [] (moved true (index_pair n columns k o) (index_pair n columns k r)))) [ true ↦ tt | false ↦ (p o refl, (q r refl, tt)) ]
  owned_by false k (Some o) (Some r) p q = elim (same_bytes (index_pair n columns k o) (index_pair n columns k r)) as (λ t. AllKeys (IsKeyOfElement n) (cond t [] (moved false (index_pair n columns k o) (index_pair n columns k r)))) [ true ↦ tt | false ↦ (p o refl, tt) ]

  -- what an operation does to the index's pairs at one key
  abbrev Eff : Change → Pairs → Pairs → Bytes → Type 0
  Eff c P Q x = Effect (index_meaning n columns) c P Q x

  by_put : (c : Change) (P : Pairs) (x : Bytes) (r : Cells) → c.old ≡ None → c.new ≡ Some r → Eff c P (written P (index_pair n columns c.key r) (Some [])) x
  by_put c P x r was is = elim (bytes_one x (index_pair n columns c.key r)) [
    | inl e ↦ Came r [] is (sym e) refl (ap (get (written P (index_pair n columns c.key r) (Some []))) e ∙ pair_here P _ (Some []))
    | inr ne ↦ Stays (pair_apart P _ (Some []) x ne) (λ o w old _ _. absurd (none_some o (sym was ∙ old)))
  ]

  by_removal : (c : Change) (P : Pairs) (x : Bytes) (o : Cells) → c.old ≡ Some o → Eff c P (written P (index_pair n columns c.key o) None) x
  by_removal c P x o was = elim (bytes_one x (index_pair n columns c.key o)) [
    | inl e ↦ Gone o refl was (sym e) (ap (get (written P (index_pair n columns c.key o) None)) e ∙ pair_here P _ None)
    | inr ne ↦ Stays (pair_apart P _ None x ne) (λ p w old at _. absurd (ne (sym at ∙ ap (index_pair n columns c.key) (some_one p o (sym old ∙ was)))))
  ]

  by_move : (c : Change) (P : Pairs) (x : Bytes) (o r : Cells) → c.old ≡ Some o → c.new ≡ Some r → Eff c P (written (written P (index_pair n columns c.key o) None) (index_pair n columns c.key r) (Some [])) x
  by_move c P x o r was is = elim (bytes_one x (index_pair n columns c.key r)) [
    | inl e ↦ Came r [] is (sym e) refl (ap (get (written (written P (index_pair n columns c.key o) None) (index_pair n columns c.key r) (Some []))) e ∙ pair_here (written P (index_pair n columns c.key o) None) (index_pair n columns c.key r) (Some []))
    | inr ne ↦
        let apart : get (written (written P (index_pair n columns c.key o) None) (index_pair n columns c.key r) (Some [])) x ≡ get (written P (index_pair n columns c.key o) None) x = pair_apart (written P (index_pair n columns c.key o) None) (index_pair n columns c.key r) (Some []) x ne in
        elim (bytes_one x (index_pair n columns c.key o)) [
          | inl e ↦ Gone o refl was (sym e) (apart ∙ ap (get (written P (index_pair n columns c.key o) None)) e ∙ pair_here P _ None)
          | inr no_old ↦ Stays (apart ∙ pair_apart P _ None x no_old) (λ p w old at _. absurd (no_old (sym at ∙ ap (index_pair n columns c.key) (some_one p o (sym old ∙ was)))))
        ]
  ]

  by_same : (c : Change) (P : Pairs) (x : Bytes) (o r : Cells) → c.old ≡ Some o → c.new ≡ Some r → index_pair n columns c.key o ≡ index_pair n columns c.key r → Eff c P P x
  by_same c P x o r was is e = Stays refl (λ p w old at _. record { cells = r; new_is = is; same_key = sym e ∙ ap (index_pair n columns c.key) (some_one o p (sym was ∙ old)); same_value = refl })

  effect_by : (puts : Bool) (c : Change) (P : Pairs) (x : Bytes) (old new : Option Cells) → c.old ≡ old → c.new ≡ new → Eff c P (written_all P (index_by n columns puts c.key old new)) x
  effect_by puts c P x None None was is = Stays refl (λ o w old _ _. absurd (none_some o (sym was ∙ old)))
  effect_by true c P x None (Some r) was is = by_put c P x r was is
  effect_by false c P x None (Some r) was is = Stays refl (λ o w old _ _. absurd (none_some o (sym was ∙ old)))
  effect_by puts c P x (Some o) None was is = by_removal c P x o was
  effect_by true c P x (Some o) (Some r) was is =
      elim (same_bytes (index_pair n columns c.key o) (index_pair n columns c.key r)) as (λ t. same_bytes (index_pair n columns c.key o) (index_pair n columns c.key r) ≡ t → Eff c P (written_all P (cond t [] (moved true (index_pair n columns c.key o) (index_pair n columns c.key r)))) x) [
        | true ↦ λ e. by_same c P x o r was is (same_from_test _ _ e)
        | false ↦ λ e. by_move c P x o r was is
      ] refl
  effect_by false c P x (Some o) (Some r) was is =
      elim (same_bytes (index_pair n columns c.key o) (index_pair n columns c.key r)) as (λ t. same_bytes (index_pair n columns c.key o) (index_pair n columns c.key r) ≡ t → Eff c P (written_all P (cond t [] (moved false (index_pair n columns c.key o) (index_pair n columns c.key r)))) x) [
        | true ↦ λ e. by_same c P x o r was is (same_from_test _ _ e)
        | false ↦ λ e. by_removal c P x o was
      ] refl

  stands_by : (c : Change) (P : Pairs) (old : Option Cells) → c.old ≡ old
      → ((o : Cells) (w : Bytes) → c.old ≡ Some o → Some [] ≡ Some w → get P (index_pair n columns c.key o) ≡ Some w)
      → (r : Cells) → get (written_all P (index_by n columns true c.key old (Some r))) (index_pair n columns c.key r) ≡ Some []
  stands_by c P None was stood r = pair_here P _ (Some [])
  stands_by c P (Some o) was stood r =
      elim (same_bytes (index_pair n columns c.key o) (index_pair n columns c.key r)) as (λ t. same_bytes (index_pair n columns c.key o) (index_pair n columns c.key r) ≡ t → get (written_all P (cond t [] (moved true (index_pair n columns c.key o) (index_pair n columns c.key r)))) (index_pair n columns c.key r) ≡ Some []) [
        | true ↦ λ e. ap (get P) (sym (same_from_test _ _ e)) ∙ stood o [] was refl
        | false ↦ λ e. pair_here (written P (index_pair n columns c.key o) None) (index_pair n columns c.key r) (Some [])
      ] refl

  shrinks_by : (c : Change) (P : Pairs) (old new : Option Cells) (x v : Bytes) → get (written_all P (index_by n columns false c.key old new)) x ≡ Some v → get P x ≡ Some v
  shrinks_by c P None None x v is = is
  shrinks_by c P None (Some r) x v is = is
  shrinks_by c P (Some o) None x v is = removed P _ x v is
  shrinks_by c P (Some o) (Some r) x v is =
      elim (same_bytes (index_pair n columns c.key o) (index_pair n columns c.key r)) as (λ t. get (written_all P (cond t [] (moved false (index_pair n columns c.key o) (index_pair n columns c.key r)))) x ≡ Some v → get P x ≡ Some v) [
        | true ↦ λ e. e
        | false ↦ λ e. removed P _ x v e
      ] is

index_effect : (n : ℕ) (columns : List (ℕ × Value)) (q : ElementState) (c : Change) (P : Pairs) → IsLive q → ChangesPublicOnly n q c → (x : Bytes) → Effect (index_meaning n columns) c P (pairs_after (index_meaning n columns) q c P) x
index_effect n columns Absent c P live only x = absurd live
index_effect n columns DeleteOnly c P live only x = effect_by n columns false c P x c.old c.new refl refl
index_effect n columns WriteOnly c P live only x = effect_by n columns true c P x c.old c.new refl refl
index_effect n columns Public c P live only x = effect_by n columns true c P x c.old c.new refl refl

module _ (n : ℕ) (columns : List (ℕ × Value)) where
  -- the index's key of a row with these indexed values
  abbrev key_with : RowKey → List Value → Bytes
  key_with k vs = index_code n (vs ++ k.1)

  same_by : (puts : Bool) (k : RowKey) (a b c d : Option Cells) → Alike (indexed columns) a c → Alike (indexed columns) b d → index_by n columns puts k a b ≡ index_by n columns puts k c d
  same_by puts k None b (Some s) d x y = absurd x
  same_by puts k (Some o) b None d x y = absurd x
  same_by puts k a None c (Some s) x y = absurd y
  same_by puts k a (Some r) c None x y = absurd y
  same_by puts k None None None None x y = refl
  same_by puts k None (Some r) None (Some s) x y = ap (λ v. cond puts ((key_with k v, Some []) ∷ []) []) y
  same_by puts k (Some o) None (Some p) None x y = ap (λ v. (key_with k v, None) ∷ []) x
  same_by puts k (Some o) (Some r) (Some p) (Some s) x y =
      ap₂ (λ v w. cond (same_bytes (key_with k v) (key_with k w)) [] (moved puts (key_with k v) (key_with k w))) x y

  index_same : (q : ElementState) (c d : Change) → c.key ≡ d.key → Alike (indexed columns) c.old d.old → Alike (indexed columns) c.new d.new → index_writes n columns q c ≡ index_writes n columns q d
  index_same Absent c d k x y = refl
  index_same DeleteOnly c d k x y = ap (λ t. index_by n columns false t c.old c.new) k ∙ same_by false d.key c.old c.new d.old d.new x y
  index_same WriteOnly c d k x y = ap (λ t. index_by n columns true t c.old c.new) k ∙ same_by true d.key c.old c.new d.old d.new x y
  index_same Public c d k x y = ap (λ t. index_by n columns true t c.old c.new) k ∙ same_by true d.key c.old c.new d.old d.new x y

-- ---- reading an index's key

storable_in : (r : Cells) (c : ℕ × Value) → IsStorable c.1 → ((column : ℕ) (value : Value) → get r column ≡ Some value → IsStorable value) → IsStorable (value_in r c)
storable_in r c stand h = elim (get r c.0) as (λ o. get r c.0 ≡ o → IsStorable (unwrap_or o c.1)) [ None ↦ λ e. stand | Some v ↦ λ e. h c.0 v e ] refl

indexed_values : (columns : List (ℕ × Value)) (r : Cells) → AllByRecursion (λ (c : ℕ × Value). IsStorable c.1) columns → ((column : ℕ) (value : Value) → get r column ≡ Some value → IsStorable value) → AreValues (indexed columns r)
indexed_values [] r stand h = tt
indexed_values (c ∷ cs) r stand h = ((storable_in r c stand.0 h).0, indexed_values cs r stand.1 h)

indexed_short : (columns : List (ℕ × Value)) (r : Cells) → AllByRecursion (λ (c : ℕ × Value). IsStorable c.1) columns → ((column : ℕ) (value : Value) → get r column ≡ Some value → IsStorable value) → AreShort (indexed columns r)
indexed_short [] r stand h = tt
indexed_short (c ∷ cs) r stand h = ((storable_in r c stand.0 h).1, indexed_short cs r stand.1 h)

pub indexed_length : (columns : List (ℕ × Value)) (r : Cells) → length (indexed columns r) ≡ length columns
indexed_length [] r = refl
indexed_length (c ∷ cs) r = ap suc (indexed_length cs r)

-- the values of an index's key
abbrev index_values : KeyOf → List Value
index_values (Exists table key) = []
index_values (Column table key element) = []
index_values (Index element values) = values

module _ (n : ℕ) (columns : List (ℕ × Value)) (lawful : IsLawfulIndex n columns) where
  length_both : (k : RowKey) (r : Cells) → length (indexed columns r ++ k.1) ≡ length columns + length k.1
  length_both k r = length-append (indexed columns r) k.1 ∙ ap (λ l. l + length k.1) (indexed_length columns r)

  pub index_is_key : (k : RowKey) (r : Cells) → IsStorableRow k r → IsKey (Index n (indexed columns r ++ k.1))
  index_is_key k r held = (
    lawful.number,
    record {
      low_number = subst (λ l. 2 ≤ l) (sym (length_both k r)) (add-le-add lawful.some_columns held.primary.low_number);
      high_number = subst (λ l. l ≤ 8) (sym (length_both k r)) (add-le-add lawful.few_columns held.primary.high_number);
      values = AllByRecursion-append IsValue (indexed columns r) k.1 (indexed_values columns r lawful.default_values held.values) held.primary.values;
      short = AllByRecursion-append IsShort (indexed columns r) k.1 (indexed_short columns r lawful.default_values held.values) held.primary.short;
    },
  )

  index_owned_key : (k : RowKey) (r : Cells) → IsStorableRow k r → IsKeyOfElement n (index_pair n columns k r)
  index_owned_key k r held = record { key = Index n (indexed columns r ++ k.1); form = index_is_key k r held; encoded = refl; names = refl }

  index_primary : (k l : RowKey) (r s : Cells) → IsStorableRow k r → IsStorableRow l s → index_pair n columns k r ≡ index_pair n columns l s → k.1 ≡ l.1
  index_primary k l r s held also e =
      let values : indexed columns r ++ k.1 ≡ indexed columns s ++ l.1 = ap index_values (same_key (Index n (indexed columns r ++ k.1)) (Index n (indexed columns s ++ l.1)) (index_is_key k r held) (index_is_key l s also) e) in
      sym (drop_at (indexed columns r) k.1 (length columns) (indexed_length columns r)) ∙ ap (drop (length columns)) values ∙ drop_at (indexed columns s) l.1 (length columns) (indexed_length columns s)

  index_row : (table : ℕ) → HasOneRowIn table (index_meaning n columns)
  index_row table k l r s held also at to e =
      let tables : k.0 ≡ l.0 = at ∙ sym to in
      let keys : k.1 ≡ l.1 = index_primary k l r s held also e in
      λ i. (tables i, keys i)

  index_owned : (q : ElementState) (c : Change) → IsStorableChange c → AllKeys (IsKeyOfElement n) (index_writes n columns q c)
  index_owned Absent c both = tt
  index_owned DeleteOnly c both = owned_by n columns false c.key c.old c.new (λ r e. index_owned_key c.key r (both.before r e)) (λ r e. index_owned_key c.key r (both.after r e))
  index_owned WriteOnly c both = owned_by n columns true c.key c.old c.new (λ r e. index_owned_key c.key r (both.before r e)) (λ r e. index_owned_key c.key r (both.after r e))
  index_owned Public c both = owned_by n columns true c.key c.old c.new (λ r e. index_owned_key c.key r (both.before r e)) (λ r e. index_owned_key c.key r (both.after r e))

-- the new row's pair is there after the operation, if the old row's was there before
abbrev StandsAfter : ℕ → List (ℕ × Value) → ElementState → Type 0
StandsAfter n columns q = (c : Change) (P : Pairs)
    → ((o : Cells) (w : Bytes) → c.old ≡ Some o → Some [] ≡ Some w → get P (index_pair n columns c.key o) ≡ Some w)
    → (r : Cells) (v : Bytes) → c.new ≡ Some r → Some [] ≡ Some v → get (pairs_after (index_meaning n columns) q c P) (index_pair n columns c.key r) ≡ Some v

puts_stand : (n : ℕ) (columns : List (ℕ × Value)) (c : Change) (P : Pairs)
    → ((o : Cells) (w : Bytes) → c.old ≡ Some o → Some [] ≡ Some w → get P (index_pair n columns c.key o) ≡ Some w)
    → (r : Cells) (v : Bytes) → c.new ≡ Some r → Some [] ≡ Some v → get (written_all P (index_by n columns true c.key c.old c.new)) (index_pair n columns c.key r) ≡ Some v
puts_stand n columns c P stood r v is val = ap (λ y. get (written_all P (index_by n columns true c.key c.old y)) (index_pair n columns c.key r)) is ∙ stands_by n columns c P c.old refl stood r ∙ val

index_stands : (n : ℕ) (columns : List (ℕ × Value)) (q : ElementState) → IsTrue (index_exact q) → StandsAfter n columns q
index_stands n columns Absent e = absurd (no_test e)
index_stands n columns DeleteOnly e = absurd (no_test e)
index_stands n columns WriteOnly e = puts_stand n columns
index_stands n columns Public e = puts_stand n columns

index_shrinks : (n : ℕ) (columns : List (ℕ × Value)) (q : ElementState) (c : Change) (P : Pairs) → ¬ (Grows q) → (x v : Bytes) → get (pairs_after (index_meaning n columns) q c P) x ≡ Some v → get P x ≡ Some v
index_shrinks n columns Absent c P g x v is = is
index_shrinks n columns DeleteOnly c P g x v is = shrinks_by n columns c P c.old c.new x v is
index_shrinks n columns WriteOnly c P g x v is = absurd (g tt)
index_shrinks n columns Public c P g x v is = absurd (g tt)

-- ---- the states of a kind that is filled

pub filled_live : (q : ElementState) → IsTrue (index_exact q) → IsLive q
filled_live Absent e = absurd (no_test e)
filled_live DeleteOnly e = tt
filled_live WriteOnly e = tt
filled_live Public e = tt

pub filled_grows : (q : ElementState) → Grows q → IsTrue (index_exact q)
filled_grows Absent e = absurd e
filled_grows DeleteOnly e = absurd e
filled_grows WriteOnly e = yes_test
filled_grows Public e = yes_test

pub filled_beside : (m : Meaning) → IsTrue (m.exact WriteOnly) → (p q : ElementState) → IsTrue (index_edge p q) → BesideOne m p q × BesideOne m q p
filled_beside m exact Absent DeleteOnly e = (λ g. g, tt)
filled_beside m exact DeleteOnly WriteOnly e = (tt, tt)
filled_beside m exact WriteOnly Public e = (tt, exact)
filled_beside m exact Public WriteOnly e = (exact, tt)
filled_beside m exact WriteOnly DeleteOnly e = (tt, tt)
filled_beside m exact DeleteOnly Absent e = (tt, λ g. g)
filled_beside m exact _ _ e = absurd (no_test e)

pub index_facts : (n : ℕ) (columns : List (ℕ × Value)) → IsLawfulIndex n columns → KindFacts (index_meaning n columns)
index_facts n columns lawful = record {
  owned = index_owned_key n columns lawful;
  writes_owned = index_owned n columns lawful;
  absent = λ c. refl;
  same_writes = index_same n columns;
  effect = index_effect n columns;
  stands = λ q c P e only. index_stands n columns q e c P;
  no_growth = index_shrinks n columns;
  exact_is_live = filled_live;
  exact_public = yes_test;
  exact_where_grows = λ q _ g. filled_grows q g;
  no_pair = λ e. absurd (true≢false e);
  beside = filled_beside (index_meaning n columns) yes_test;
}

pub index_laws : (table n : ℕ) (columns : List (ℕ × Value)) → IsLawfulIndex n columns → Laws (index_of table n columns)
index_laws table n columns lawful = table_laws table (index_meaning n columns) (index_facts n columns lawful) (index_row n columns lawful table)

-- ---- its clear

key_in : (test : Bytes → Bool) (es : List (Bytes × Bytes)) (x v : Bytes) → find bytes_cmp x es ≡ Some v → test x ≡ true → IsIn x (filter test (each (λ (e : Bytes × Bytes). e.0) es))
key_in test [] x v is t = absurd (none_some v is)
key_in test (e ∷ es) x v is t = elim (same_or_apart bytes_cmp_total bytes_cmp-IsAntisymmetric x e.0) [
  | inl s ↦ here (test e.0) (sym (ap test s) ∙ t) s
  | inr ne ↦ later (test e.0) (key_in test es x v (sym (ap (λ b. cond b (Some e.1) (find bytes_cmp x es)) (apart bytes_cmp_total bytes_cmp-IsAntisymmetric x e.0 ne)) ∙ is) t)
]
  where
    here : (b : Bool) → b ≡ true → x ≡ e.0 → IsIn x (cond b (e.0 ∷ filter test (each (λ (e : Bytes × Bytes). e.0) es)) (filter test (each (λ (e : Bytes × Bytes). e.0) es)))
    here true t s = inl s
    here false t s = absurd (false_true t)

    later : (b : Bool) → IsIn x (filter test (each (λ (e : Bytes × Bytes). e.0) es)) → IsIn x (cond b (e.0 ∷ filter test (each (λ (e : Bytes × Bytes). e.0) es)) (filter test (each (λ (e : Bytes × Bytes). e.0) es)))
    later true h = inr h
    later false h = h

key_facts : (test : Bytes → Bool) (es : List (Bytes × Bytes)) (x : Bytes) → AllByRecursion (λ (e : Bytes × Bytes). HasForm e.0) es → IsIn x (filter test (each (λ (e : Bytes × Bytes). e.0) es)) → HasForm x × (test x ≡ true)
key_facts test [] x h at = absurd at
key_facts test (e ∷ es) x h at = elim (test e.0) as (λ b. test e.0 ≡ b → IsIn x (cond b (e.0 ∷ filter test (each (λ (e : Bytes × Bytes). e.0) es)) (filter test (each (λ (e : Bytes × Bytes). e.0) es))) → HasForm x × (test x ≡ true)) [
  | true ↦ λ t in_list. elim in_list [ inl s ↦ (subst HasForm (sym s) h.0, ap test s ∙ t) | inr more ↦ key_facts test es x h.1 more ]
  | false ↦ λ t in_list. key_facts test es x h.1 in_list
] refl at

index_named : (n : ℕ) → n + 1 < 2 ^ 32 → (x : Bytes) (k : KeyOf) → IsKey k → x ≡ key_code k → Between (index_prefix n) (index_prefix (n + 1)) x → IsKeyOfElement n x
index_named n fits x (Exists table key) form is b = absurd (b.0 (ap (λ y. bytes_cmp y (index_prefix n)) is ∙ row_no_index table key 0 n))
index_named n fits x (Column table key element) form is b = absurd (b.0 (ap (λ y. bytes_cmp y (index_prefix n)) is ∙ row_no_index table key element n))
index_named n fits x (Index element values) form is b = record {
  key = Index element values;
  form = form;
  encoded = is;
  names = index_number element n values form.0 fits (λ e. b.0 (ap (λ y. bytes_cmp y (index_prefix n)) is ∙ e)) (ap (λ y. bytes_cmp y (index_prefix (n + 1))) (sym is) ∙ b.1);
}

module _ (table n : ℕ) (columns : List (ℕ × Value)) (fits : n + 1 < 2 ^ 32) where
  index_items_owned : (R : Rows) (P : Pairs) (from to x : Bytes) → AreStorable R → AreFormed P → IsIn x (index_items n R P from to) → IsKeyOfElement n x
  index_items_owned R P from to x held formed at =
      let f = key_facts (λ y. is_within (index_prefix n) (index_prefix (n + 1)) y && is_within from to y) (entries P) x (each_entry bytes_cmp bytes_cmp_total bytes_cmp-IsAntisymmetric (λ y v. HasForm y) P formed) at in
      index_named n fits x f.0.key f.0.form f.0.encoded (between_test (index_prefix n) (index_prefix (n + 1)) x (left_true _ _ f.1))

  index_whole : (R : Rows) (P : Pairs) (x v : Bytes) → AreStorable R → Subset (index_of table n columns) P R → owner x ≡ Some n → get P x ≡ Some v → Between (index_prefix n) (index_prefix (n + 1)) x
  index_whole R P x v held sub own is =
      let s : IsFromScratch (index_of table n columns) R x v = sub x v own is in (
        λ e. index_not_before n (indexed columns s.cells ++ s.key.1) (below_next n (2 ^ 32) fits) (ap (λ y. bytes_cmp y (index_prefix n)) s.key_is ∙ e),
        sym (ap (λ y. bytes_cmp y (index_prefix (n + 1))) s.key_is) ∙ index_before_next n (indexed columns s.cells ++ s.key.1) fits,
      )

  index_reach : (R : Rows) (P : Pairs) (from to x v : Bytes) → AreStorable R → Subset (index_of table n columns) P R → Unit {0} → Unit {0} → owner x ≡ Some n → get P x ≡ Some v → Between from to x → IsIn x (index_items n R P from to)
  index_reach R P from to x v held sub low high own is at =
      key_in (λ y. is_within (index_prefix n) (index_prefix (n + 1)) y && is_within from to y) (entries P) x v (sym (get-entries P x) ∙ is)
      (both_true _ _ (test_between (index_prefix n) (index_prefix (n + 1)) x (index_whole R P x v held sub own is)) (test_between from to x at))

  pub index_clears : ClearFacts (index_of table n columns) (index_clear n)
  index_clears = record { owned = index_items_owned; reach = index_reach; whole = index_whole }
