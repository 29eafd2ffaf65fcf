-- Cited by proofs and by the specs that need them: Kinds, RequiredLaws.
-- The laws of an optional column.
use Rattle.std.specs.Prelude.{◌≡◌, ◌≢◌, ℕ, ◌<◌, ◌^◌, true, false, IsTrue, List, [], ◌∷◌, Option, Some, None, cond, refl, eqb, option_to_list}
use Rattle.std.specs.FinMap.{get}
use Rattle.std.specs.Cmp.{Equal-is}
use Rattle.std.proofs.Common.{ap₂, sym, ap, ◌∙◌, inl, inr}
use Rattle.keycode.specs.declared.value.Value.{Value}
use Rattle.keycode.specs.Order.{value_cmp}
use Rattle.keycode.proofs.Orders.{value_cmp-IsAntisymmetric}
use Rattle.row_map.specs.declared.key.KeyOf.{KeyOf}
use Rattle.row_map.specs.declared.key.KeyOf.TheVariants.{Exists, Column, Index}
use Rattle.row_map.specs.Keys.{row_code, IsKey}
use Rattle.row_map.specs.Rows.{Bytes, RowKey, Cells, Pairs, IsStorableRow}
use Rattle.row_map.specs.Writes.{written, written_all, AllKeys}
use Rattle.row_map.proofs.KeyLaws.{same_key}
use Rattle.schema_version.specs.declared.element.ElementState.{ElementState}
use Rattle.schema_version.specs.declared.element.ElementState.TheVariants.{Absent, DeleteOnly, WriteOnly, Public}
use Rattle.element_state.specs.Elements.{Alike, Change, ChangesPublicOnly, IsStorableChange, cell, IsKeyOfElement, Meaning}
use Rattle.element_state.specs.Laws.{pairs_after, Grows, IsLive, Laws, BesideOne}
use Rattle.element_state.specs.lemmas.Effects.{Effect, Stays, Gone, Came, KindFacts, bytes_one, pair_here, pair_apart}
use Rattle.element_state.specs.lemmas.IndexLaws.{removed, no_test, yes_test}
use Rattle.element_state.specs.Tables.{HasOneRowIn, table_laws}
use Rattle.element_state.specs.Column.{column_pair, coded, same_cell, put_if_some, column_public, column_deletes, column_writes, column_exact, column_edge, column_sees, column_meaning, column_of, IsLawfulColumn}
use Rattle.std.specs.Prelude.{◌≡◌, ◌≢◌, ℕ, ◌+◌, ◌<◌, ◌^◌, true, false, ◌&&◌, eqb, cond, List, [], ◌∷◌, Some, None, refl}
use Rattle.std.specs.List.{AllByRecursion}
use Rattle.std.specs.FinMap.{get, entries}
use Rattle.std.proofs.Common.{sym, ap, subst, ◌∙◌, inl, inr, eqb-true}
use mathlib.Core.List.{map as each}
use Rattle.keycode.specs.Order.{bytes_cmp}
use Rattle.row_map.specs.Keys.{IsKey, row_code}
use Rattle.row_map.specs.Rows.{Bytes, RowKey, Cells, Rows, Pairs, row_cmp, AreStorable, IsStorableRow}
use Rattle.row_map.specs.Ranges.{is_within, table_prefix, IsRowBound}
use Rattle.row_map.proofs.Orders.{row_cmp_total, row_cmp-IsAntisymmetric}
use Rattle.row_map.proofs.Entries.{each_entry}
use Rattle.row_map.proofs.Ranges.{row_not_before, row_before_next, pair_then_row, row_then_pair}
use Rattle.element_state.specs.Elements.{IsKeyOfElement, owner, IsFromScratch, Subset}
use Rattle.element_state.specs.Exists.{row_key}
use Rattle.element_state.specs.Items.{IsIn, Between, row_items, ClearFacts, AmongEntries}
use Rattle.element_state.specs.lemmas.Clears.{both_true, test_between, entry_kept, facts_kept, first_facts}
use Rattle.element_state.specs.Column.{column_items, column_clear}
use Rattle.element_state.specs.Tables.{within, some_in}
use Rattle.element_state.specs.lemmas.Apart.{below_next, false_true, hidden_not_public, none_some, some_one}

same_cell_is : (a b : Option Value) → same_cell a b ≡ true → a ≡ b
same_cell_is None None e = refl
same_cell_is None (Some w) e = absurd (false_true e)
same_cell_is (Some v) None e = absurd (false_true e)
same_cell_is (Some v) (Some w) e = ap Some (value_cmp-IsAntisymmetric v w ((Equal-is (value_cmp v w)).0 e))

-- ---- reading a column's key

-- the table of a row's key
abbrev key_table : KeyOf → ℕ
key_table (Exists table key) = table
key_table (Column table key element) = table
key_table (Index element values) = 0

-- the primary key of a row's key
abbrev key_values : KeyOf → List Value
key_values (Exists table key) = key
key_values (Column table key element) = key
key_values (Index element values) = values

module _ (n : ℕ) (lawful : IsLawfulColumn n) where
  pub column_is_key : (k : RowKey) (r : Cells) → IsStorableRow k r → IsKey (Column k.0 k.1 n)
  column_is_key k r held = (held.table, held.primary, lawful.above, lawful.below)

  pub column_owned_key : (k : RowKey) (r : Cells) → IsStorableRow k r → IsKeyOfElement n (column_pair n k)
  column_owned_key k r held = record { key = Column k.0 k.1 n; form = column_is_key k r held; encoded = refl; names = refl }

  pub column_row : (table : ℕ) → HasOneRowIn table (column_meaning n)
  column_row table k l r s held also at to e =
      let same : Column k.0 k.1 n ≡ Column l.0 l.1 n = same_key (Column k.0 k.1 n) (Column l.0 l.1 n) (column_is_key k r held) (column_is_key l s also) e in
      λ i. (key_table (same i), key_values (same i))

module _ (n : ℕ) where
  -- what an operation does to the column's pair at one key
  abbrev Eff : Change → Pairs → Pairs → Bytes → Type 0
  Eff c P Q x = Effect (column_meaning n) c P Q x

  owned_public : (k : RowKey) (old new : Option Cells) → ((r : Cells) → old ≡ Some r → IsKeyOfElement n (column_pair n k)) → ((r : Cells) → new ≡ Some r → IsKeyOfElement n (column_pair n k))
      → AllKeys (IsKeyOfElement n) (column_public n k old new)
  owned_public k None None p q = tt
  owned_public k None (Some r) p q = elim (coded (get r n)) as (λ v. AllKeys (IsKeyOfElement n) (put_if_some (column_pair n k) v)) [ None ↦ tt | Some v ↦ (q r refl, tt) ]
  owned_public k (Some o) None p q = (p o refl, tt)
  owned_public k (Some o) (Some r) p q = elim (same_cell (get o n) (get r n)) as (λ t. AllKeys (IsKeyOfElement n) (cond t [] ((column_pair n k, coded (get r n)) ∷ []))) [ true ↦ tt | false ↦ (p o refl, tt) ]

  pub owned_deletes : (k : RowKey) (old new : Option Cells) → ((r : Cells) → old ≡ Some r → IsKeyOfElement n (column_pair n k)) → AllKeys (IsKeyOfElement n) (column_deletes n k old new)
  owned_deletes k None None p = tt
  owned_deletes k None (Some r) p = tt
  owned_deletes k (Some o) None p = (p o refl, tt)
  owned_deletes k (Some o) (Some r) p = tt

  -- a write of the row's column pair
  by_write : (c : Change) (P : Pairs) (x : Bytes) (o r : Cells) (w : Option Bytes) → c.old ≡ Some o → c.new ≡ Some r → coded (get r n) ≡ w → Eff c P (written P (column_pair n c.key) w) x
  by_write c P x o r None was is val = elim (bytes_one x (column_pair n c.key)) [
    | inl e ↦ Gone o refl was (sym e) (ap (get (written P (column_pair n c.key) None)) e ∙ pair_here P _ None)
    | inr ne ↦ Stays (pair_apart P _ None x ne) (λ p v old at _. absurd (ne (sym at)))
  ]
  by_write c P x o r (Some v) was is val = elim (bytes_one x (column_pair n c.key)) [
    | inl e ↦ Came r v is (sym e) val (ap (get (written P (column_pair n c.key) (Some v))) e ∙ pair_here P _ (Some v))
    | inr ne ↦ Stays (pair_apart P _ (Some v) x ne) (λ p v old at _. absurd (ne (sym at)))
  ]

  by_insert : (c : Change) (P : Pairs) (x : Bytes) (r : Cells) (w : Option Bytes) → c.old ≡ None → c.new ≡ Some r → coded (get r n) ≡ w → Eff c P (written_all P (put_if_some (column_pair n c.key) w)) x
  by_insert c P x r None was is val = Stays refl (λ o w old _ _. absurd (none_some o (sym was ∙ old)))
  by_insert c P x r (Some v) was is val = elim (bytes_one x (column_pair n c.key)) [
    | inl e ↦ Came r v is (sym e) val (ap (get (written P (column_pair n c.key) (Some v))) e ∙ pair_here P _ (Some v))
    | inr ne ↦ Stays (pair_apart P _ (Some v) x ne) (λ p v old at _. absurd (ne (sym at)))
  ]

  by_removal : (c : Change) (P : Pairs) (x : Bytes) (o : Cells) → c.old ≡ Some o → Eff c P (written P (column_pair n c.key) None) x
  by_removal c P x o was = elim (bytes_one x (column_pair n c.key)) [
    | inl e ↦ Gone o refl was (sym e) (ap (get (written P (column_pair n c.key) None)) e ∙ pair_here P _ None)
    | inr ne ↦ Stays (pair_apart P _ None x ne) (λ p v old at _. absurd (ne (sym at)))
  ]

  by_same : (c : Change) (P : Pairs) (x : Bytes) (o r : Cells) → c.old ≡ Some o → c.new ≡ Some r → get o n ≡ get r n → Eff c P P x
  by_same c P x o r was is e = Stays refl (λ p v old at _. record { cells = r; new_is = is; same_key = refl; same_value = ap coded (sym e ∙ ap (λ s. get s n) (some_one o p (sym was ∙ old))) })

  effect_public : (c : Change) (P : Pairs) (x : Bytes) (old new : Option Cells) → c.old ≡ old → c.new ≡ new → Eff c P (written_all P (column_public n c.key old new)) x
  effect_public c P x None None was is = Stays refl (λ o w old _ _. absurd (none_some o (sym was ∙ old)))
  effect_public c P x None (Some r) was is = by_insert c P x r (coded (get r n)) was is refl
  effect_public c P x (Some o) None was is = by_removal c P x o was
  effect_public c P x (Some o) (Some r) was is =
      elim (same_cell (get o n) (get r n)) as (λ t. same_cell (get o n) (get r n) ≡ t → Eff c P (written_all P (cond t [] ((column_pair n c.key, coded (get r n)) ∷ []))) x) [
        | true ↦ λ e. by_same c P x o r was is (same_cell_is _ _ e)
        | false ↦ λ e. by_write c P x o r (coded (get r n)) was is refl
      ] refl

  effect_deletes : (c : Change) (P : Pairs) (x : Bytes) (old new : Option Cells) → c.old ≡ old → c.new ≡ new → ((r : Cells) → c.new ≡ Some r → get r n ≡ cell c.old n) → Eff c P (written_all P (column_deletes n c.key old new)) x
  effect_deletes c P x None None was is only = Stays refl (λ o w old _ _. absurd (none_some o (sym was ∙ old)))
  effect_deletes c P x None (Some r) was is only = Stays refl (λ o w old _ _. absurd (none_some o (sym was ∙ old)))
  effect_deletes c P x (Some o) None was is only = by_removal c P x o was
  effect_deletes c P x (Some o) (Some r) was is only = by_same c P x o r was is (sym (only r is ∙ ap (λ s. cell s n) was))

  stands_public : (c : Change) (P : Pairs) (old : Option Cells) → c.old ≡ old
      → ((o : Cells) (w : Bytes) → c.old ≡ Some o → coded (get o n) ≡ Some w → get P (column_pair n c.key) ≡ Some w)
      → (r : Cells) (v : Bytes) → coded (get r n) ≡ Some v → get (written_all P (column_public n c.key old (Some r))) (column_pair n c.key) ≡ Some v
  stands_public c P None was stood r v val = ap (λ w. get (written_all P (put_if_some (column_pair n c.key) w)) (column_pair n c.key)) val ∙ pair_here P _ (Some v)
  stands_public c P (Some o) was stood r v val =
      elim (same_cell (get o n) (get r n)) as (λ t. same_cell (get o n) (get r n) ≡ t → get (written_all P (cond t [] ((column_pair n c.key, coded (get r n)) ∷ []))) (column_pair n c.key) ≡ Some v) [
        | true ↦ λ e. stood o v was (ap coded (same_cell_is _ _ e) ∙ val)
        | false ↦ λ e. pair_here P (column_pair n c.key) (coded (get r n)) ∙ val
      ] refl

  stands_deletes : (c : Change) (P : Pairs) (old : Option Cells) → c.old ≡ old → ((r : Cells) → c.new ≡ Some r → get r n ≡ cell c.old n)
      → ((o : Cells) (w : Bytes) → c.old ≡ Some o → coded (get o n) ≡ Some w → get P (column_pair n c.key) ≡ Some w)
      → (r : Cells) (v : Bytes) → c.new ≡ Some r → coded (get r n) ≡ Some v → get (written_all P (column_deletes n c.key old (Some r))) (column_pair n c.key) ≡ Some v
  stands_deletes c P None was only stood r v is val = absurd (none_some v (ap coded (sym (only r is ∙ ap (λ s. cell s n) was)) ∙ val))
  stands_deletes c P (Some o) was only stood r v is val = stood o v was (ap coded (sym (only r is ∙ ap (λ s. cell s n) was)) ∙ val)

  pub deletes_shrink : (c : Change) (P : Pairs) (old new : Option Cells) (x v : Bytes) → get (written_all P (column_deletes n c.key old new)) x ≡ Some v → get P x ≡ Some v
  deletes_shrink c P None None x v is = is
  deletes_shrink c P None (Some r) x v is = is
  deletes_shrink c P (Some o) None x v is = removed P _ x v is
  deletes_shrink c P (Some o) (Some r) x v is = is

  -- an ElementState that isn't public
  delete_only : DeleteOnly ≢ Public
  delete_only = hidden_not_public DeleteOnly tt

  write_only : WriteOnly ≢ Public
  write_only = hidden_not_public WriteOnly tt

  column_effect : (q : ElementState) (c : Change) (P : Pairs) → IsLive q → ChangesPublicOnly n q c → (x : Bytes) → Effect (column_meaning n) c P (pairs_after (column_meaning n) q c P) x
  column_effect Absent c P live only x = absurd live
  column_effect DeleteOnly c P live only x = effect_deletes c P x c.old c.new refl refl (only delete_only)
  column_effect WriteOnly c P live only x = effect_deletes c P x c.old c.new refl refl (only write_only)
  column_effect Public c P live only x = effect_public c P x c.old c.new refl refl

  column_owned : IsLawfulColumn n → (q : ElementState) (c : Change) → IsStorableChange c → AllKeys (IsKeyOfElement n) (column_writes n q c)
  column_owned lawful Absent c both = tt
  column_owned lawful DeleteOnly c both = owned_deletes c.key c.old c.new (λ r e. column_owned_key n lawful c.key r (both.before r e))
  column_owned lawful WriteOnly c both = owned_deletes c.key c.old c.new (λ r e. column_owned_key n lawful c.key r (both.before r e))
  column_owned lawful Public c both = owned_public c.key c.old c.new (λ r e. column_owned_key n lawful c.key r (both.before r e)) (λ r e. column_owned_key n lawful c.key r (both.after r e))

  -- the new row's pair is there after the operation, if the old row's was there before
  abbrev StandsAfter : ElementState → Type 0
  StandsAfter q = (c : Change) (P : Pairs) → ChangesPublicOnly n q c
      → ((o : Cells) (w : Bytes) → c.old ≡ Some o → coded (get o n) ≡ Some w → get P (column_pair n c.key) ≡ Some w)
      → (r : Cells) (v : Bytes) → c.new ≡ Some r → coded (get r n) ≡ Some v → get (pairs_after (column_meaning n) q c P) (column_pair n c.key) ≡ Some v

  column_stands : (q : ElementState) → IsTrue (column_exact q) → StandsAfter q
  column_stands Absent e = absurd (no_test e)
  column_stands DeleteOnly e = λ c P only stood r v is val.
      ap (λ y. get (written_all P (column_deletes n c.key c.old y)) (column_pair n c.key)) is ∙ stands_deletes c P c.old refl (only delete_only) stood r v is val
  column_stands WriteOnly e = absurd (no_test e)
  column_stands Public e = λ c P only stood r v is val.
      ap (λ y. get (written_all P (column_public n c.key c.old y)) (column_pair n c.key)) is ∙ stands_public c P c.old refl stood r v val

  column_shrinks : (q : ElementState) (c : Change) (P : Pairs) → ¬ (Grows q) → (x v : Bytes) → get (pairs_after (column_meaning n) q c P) x ≡ Some v → get P x ≡ Some v
  column_shrinks Absent c P g x v is = is
  column_shrinks DeleteOnly c P g x v is = deletes_shrink c P c.old c.new x v is
  column_shrinks WriteOnly c P g x v is = absurd (g tt)
  column_shrinks Public c P g x v is = absurd (g tt)

  column_beside : (p q : ElementState) → IsTrue (column_edge p q) → BesideOne (column_meaning n) p q × BesideOne (column_meaning n) q p
  column_beside Absent DeleteOnly e = (λ g. g, tt)
  column_beside DeleteOnly Public e = (tt, yes_test)
  column_beside Public DeleteOnly e = (yes_test, tt)
  column_beside DeleteOnly Absent e = (tt, λ g. g)
  column_beside _ _ e = absurd (no_test e)

-- a list of one value, or none, tells it
listed_one : (a b : Option Value) → option_to_list a ≡ option_to_list b → a ≡ b
listed_one None None e = refl
listed_one None (Some w) e = cc
listed_one (Some v) None e = cc
listed_one (Some v) (Some w) e = cc

same_public : (n : ℕ) (k : RowKey) (a b c d : Option Cells) → Alike (λ r. option_to_list (get r n)) a c → Alike (λ r. option_to_list (get r n)) b d → column_public n k a b ≡ column_public n k c d
same_public n k None b (Some s) d x y = absurd x
same_public n k (Some o) b None d x y = absurd x
same_public n k a None c (Some s) x y = absurd y
same_public n k a (Some r) c None x y = absurd y
same_public n k None None None None x y = refl
same_public n k None (Some r) None (Some s) x y = ap (λ v. put_if_some (column_pair n k) (coded v)) (listed_one (get r n) (get s n) y)
same_public n k (Some o) None (Some p) None x y = refl
same_public n k (Some o) (Some r) (Some p) (Some s) x y = ap₂ (λ v w. cond (same_cell v w) [] ((column_pair n k, coded w) ∷ [])) (listed_one (get o n) (get p n) x) (listed_one (get r n) (get s n) y)

pub same_deletes : (n : ℕ) (k : RowKey) (f : Cells → List Value) (a b c d : Option Cells) → Alike f a c → Alike f b d → column_deletes n k a b ≡ column_deletes n k c d
same_deletes n k f None b (Some s) d x y = absurd x
same_deletes n k f (Some o) b None d x y = absurd x
same_deletes n k f a None c (Some s) x y = absurd y
same_deletes n k f a (Some r) c None x y = absurd y
same_deletes n k f None None None None x y = refl
same_deletes n k f None (Some r) None (Some s) x y = refl
same_deletes n k f (Some o) None (Some p) None x y = refl
same_deletes n k f (Some o) (Some r) (Some p) (Some s) x y = refl

column_same : (n : ℕ) (q : ElementState) (c d : Change) → c.key ≡ d.key → Alike (column_sees n q) c.old d.old → Alike (column_sees n q) c.new d.new → column_writes n q c ≡ column_writes n q d
column_same n Absent c d k x y = refl
column_same n DeleteOnly c d k x y = ap (λ t. column_deletes n t c.old c.new) k ∙ same_deletes n d.key (column_sees n DeleteOnly) c.old c.new d.old d.new x y
column_same n WriteOnly c d k x y = ap (λ t. column_deletes n t c.old c.new) k ∙ same_deletes n d.key (column_sees n WriteOnly) c.old c.new d.old d.new x y
column_same n Public c d k x y = ap (λ t. column_public n t c.old c.new) k ∙ same_public n d.key c.old c.new d.old d.new x y

column_live : (q : ElementState) → IsTrue (column_exact q) → IsLive q
column_live Absent e = absurd (no_test e)
column_live DeleteOnly e = tt
column_live WriteOnly e = tt
column_live Public e = tt

pub column_facts : (n : ℕ) → IsLawfulColumn n → KindFacts (column_meaning n)
column_facts n lawful = record {
  owned = column_owned_key n lawful;
  writes_owned = column_owned n lawful;
  absent = λ c. refl;
  same_writes = column_same n;
  effect = column_effect n;
  stands = λ q c P e. column_stands n q e c P;
  no_growth = column_shrinks n;
  exact_is_live = column_live;
  exact_public = yes_test;
  exact_where_grows = λ q f _. absurd (no_test f);
  no_pair = λ _ k r none. ap coded none;
  beside = column_beside n;
}

pub column_laws : (table n : ℕ) → IsLawfulColumn n → Laws (column_of table n)
column_laws table n lawful = table_laws table (column_meaning n) (column_facts n lawful) (column_row n lawful table)

-- ---- its clear

column_among : (n : ℕ) (k : RowKey) (es : List (RowKey × Cells)) → AmongEntries k es → IsIn (column_pair n k) (each (λ (e : RowKey × Cells). column_pair n e.0) es)
column_among n k [] h = h
column_among n k (e ∷ es) h = elim h [ inl s ↦ inl (ap (column_pair n) (sym s)) | inr later ↦ inr (column_among n k es later) ]

column_in : (n : ℕ) → IsLawfulColumn n → (x : Bytes) (es : List (RowKey × Cells)) → AllByRecursion (λ (e : RowKey × Cells). IsStorableRow e.0 e.1) es → IsIn x (each (λ (e : RowKey × Cells). column_pair n e.0) es) → IsKeyOfElement n x
column_in n lawful x [] h at = absurd at
column_in n lawful x (e ∷ es) h at = elim at [
  | inl s ↦ subst (IsKeyOfElement n) (sym s) (column_owned_key n lawful e.0 e.1 h.0)
  | inr later ↦ column_in n lawful x es h.1 later
]

-- of a kind that has one pair for a row, under the column's key of the row
module _ (table n : ℕ) (fits : table + 1 < 2 ^ 32) (lawful : IsLawfulColumn n) (m : Meaning) (named : m.number ≡ n) (keyed : (k : RowKey) (r : Cells) → m.pair_key k r ≡ column_pair n k) where
  column_reach : (R : Rows) (P : Pairs) (from to x v : Bytes) → AreStorable R → Subset (within table m) P R → IsRowBound table from → IsRowBound table to → owner x ≡ Some n → get P x ≡ Some v → Between from to x → IsIn x (column_items table n R P from to)
  column_reach R P from to x v held sub low high own is at =
      let s : IsFromScratch (within table m) R x v = sub x v (own ∙ ap Some (sym named)) is in
      let of_table : eqb s.key.0 table ≡ true = (some_in (eqb s.key.0 table) (m.pair_value s.key s.cells) v s.value_is).0 in
      let tables : s.key.0 ≡ table = eqb-true s.key.0 table of_table in
      let row : IsStorableRow s.key s.cells = held s.key s.cells s.there in
      let pair_is : row_code table s.key.1 n ≡ x = ap (λ t. row_code t s.key.1 n) (sym tables) ∙ sym (keyed s.key s.cells) ∙ s.key_is in
      let row_is : row_code table s.key.1 0 ≡ row_key s.key = ap (λ t. row_code t s.key.1 0) (sym tables) in
      let between : Between from to (row_key s.key) = (
        λ e. at.0 (sym (ap (λ y. bytes_cmp y from) pair_is) ∙ row_then_pair table fits s.key.1 row.primary.values n lawful.below from low (ap (λ y. bytes_cmp y from) row_is ∙ e)),
        sym (ap (λ y. bytes_cmp y to) row_is) ∙ pair_then_row table fits s.key.1 row.primary.values n lawful.below to high (ap (λ y. bytes_cmp y to) pair_is ∙ at.1),
      ) in
      subst (λ y. IsIn y (column_items table n R P from to)) (sym (keyed s.key s.cells) ∙ s.key_is)
      (column_among n s.key (row_items (λ t. eqb t table) R from to) (entry_kept row_cmp_total row_cmp-IsAntisymmetric (λ (e : RowKey × Cells). eqb e.0.0 table && is_within from to (row_key e.0)) R s.key s.cells s.there
      (both_true _ _ of_table (test_between from to (row_key s.key) between))))

  column_whole : (R : Rows) (P : Pairs) (x v : Bytes) → AreStorable R → Subset (within table m) P R → owner x ≡ Some n → get P x ≡ Some v → Between (table_prefix table) (table_prefix (table + 1)) x
  column_whole R P x v held sub own is =
      let s : IsFromScratch (within table m) R x v = sub x v (own ∙ ap Some (sym named)) is in
      let tables : s.key.0 ≡ table = eqb-true s.key.0 table (some_in (eqb s.key.0 table) (m.pair_value s.key s.cells) v s.value_is).0 in
      let pair_is : row_code table s.key.1 n ≡ x = ap (λ t. row_code t s.key.1 n) (sym tables) ∙ sym (keyed s.key s.cells) ∙ s.key_is in (
        λ e. row_not_before table s.key.1 n (below_next table (2 ^ 32) fits) (ap (λ y. bytes_cmp y (table_prefix table)) pair_is ∙ e),
        sym (ap (λ y. bytes_cmp y (table_prefix (table + 1))) pair_is) ∙ row_before_next table s.key.1 n fits,
      )

  pub cell_clears : ClearFacts (within table m) (column_clear table n)
  cell_clears = record {
    owned = λ R P from to x held formed at. subst (λ i. IsKeyOfElement i x) (sym named) (column_in n lawful x (row_items (λ t. eqb t table) R from to)
        (first_facts (λ (e : RowKey × Cells). IsStorableRow e.0 e.1) (λ (e : RowKey × Cells). (eqb e.0.0 table && is_within from to (row_key e.0)) ≡ true) (row_items (λ t. eqb t table) R from to)
        (facts_kept row_cmp_total row_cmp-IsAntisymmetric (λ (e : RowKey × Cells). eqb e.0.0 table && is_within from to (row_key e.0)) (λ (e : RowKey × Cells). IsStorableRow e.0 e.1) (entries R)
        (each_entry row_cmp row_cmp_total row_cmp-IsAntisymmetric IsStorableRow R held))) at);
    reach = λ R P from to x v held sub low high own. column_reach R P from to x v held sub low high (own ∙ ap Some named);
    whole = λ R P x v held sub own. column_whole R P x v held sub (own ∙ ap Some named);
  }

pub column_clears : (table n : ℕ) → table + 1 < 2 ^ 32 → IsLawfulColumn n → ClearFacts (column_of table n) (column_clear table n)
column_clears table n fits lawful = cell_clears table n fits lawful (column_meaning n) refl (λ k r. refl)
