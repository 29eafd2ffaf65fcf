-- Cited by proofs and by the specs that need them: Versions.
-- The laws of the `exists` pairs.
use Rattle.std.specs.Prelude.{◌≡◌, ℕ, ◌<◌, ◌^◌, IsTrue, List, [], Option, Some, None, refl}
use Rattle.std.specs.FinMap.{get}
use Rattle.std.proofs.Common.{true≢false, sym, ap, ◌∙◌, inl, inr}
use Rattle.keycode.specs.declared.value.Value.{Value}
use Rattle.row_map.specs.declared.key.KeyOf.{KeyOf}
use Rattle.row_map.specs.declared.key.KeyOf.TheVariants.{Exists, Column, Index}
use Rattle.row_map.specs.Keys.{AreKeyValues, IsKey}
use Rattle.row_map.specs.Rows.{Bytes, RowKey, Cells, Pairs, IsStorableRow}
use Rattle.row_map.specs.Writes.{written, written_all, AllKeys}
use Rattle.row_map.proofs.KeyLaws.{same_key}
use Rattle.schema_version.specs.declared.element.ElementState.{ElementState}
use Rattle.schema_version.specs.declared.element.ElementState.TheVariants.{Absent, DeleteOnly, WriteOnly, Public}
use Rattle.element_state.specs.Elements.{Alike, Change, ChangesPublicOnly, IsStorableChange, IsKeyOfElement}
use Rattle.element_state.specs.Laws.{pairs_after, Grows, IsLive, Laws}
use Rattle.element_state.specs.lemmas.Effects.{Effect, Stays, Gone, Came, KindFacts, HasOneRow, bytes_one, pair_here, pair_apart, laws_from_facts}
use Rattle.element_state.specs.lemmas.IndexLaws.{removed, no_test, yes_test}
use Rattle.element_state.specs.Exists.{row_key, exists_by, exists_deletes, exists_writes, exists_exact, exists_meaning}
use Rattle.element_state.specs.lemmas.Apart.{none_some}

-- the table of a row's key
abbrev key_table : KeyOf → ℕ
key_table (Exists table key) = table
key_table (Column table key element) = table
key_table (Index element values) = 0

-- the primary key of a row's key
abbrev key_values : KeyOf → List Value
key_values (Exists table key) = key
key_values (Column table key element) = key
key_values (Index element values) = values

pub row_is_key : (k : RowKey) (r : Cells) → IsStorableRow k r → IsKey (Exists k.0 k.1)
row_is_key k r held = (held.table, held.primary)

pub row_owned_key : (k : RowKey) (r : Cells) → IsStorableRow k r → IsKeyOfElement 0 (row_key k)
row_owned_key k r held = record { key = Exists k.0 k.1; form = row_is_key k r held; encoded = refl; names = refl }

-- rows have different keys
pub one_key : (k l : RowKey) → k.0 < 2 ^ 32 → AreKeyValues 1 4 k.1 → IsKey (Exists l.0 l.1) → row_key k ≡ row_key l → k ≡ l
one_key k l table primary form e =
    let same : Exists k.0 k.1 ≡ Exists l.0 l.1 = same_key (Exists k.0 k.1) (Exists l.0 l.1) (table, primary) form e in
    λ i. (key_table (same i), key_values (same i))

pub one_row_key : (k l : RowKey) (r s : Cells) → IsStorableRow k r → IsStorableRow l s → row_key k ≡ row_key l → k ≡ l
one_row_key k l r s held also e = one_key k l held.table held.primary (row_is_key l s also) e

-- what an operation does to the pairs at one key
abbrev Eff : Change → Pairs → Pairs → Bytes → Type 0
Eff c P Q x = Effect (exists_meaning) c P Q x

owned_by : (k : RowKey) (old new : Option Cells) → ((r : Cells) → old ≡ Some r → IsKeyOfElement 0 (row_key k)) → ((r : Cells) → new ≡ Some r → IsKeyOfElement 0 (row_key k)) → AllKeys (IsKeyOfElement 0) (exists_by k old new)
owned_by k None None p q = tt
owned_by k None (Some r) p q = (q r refl, tt)
owned_by k (Some o) None p q = (p o refl, tt)
owned_by k (Some o) (Some r) p q = tt

owned_deletes : (k : RowKey) (old new : Option Cells) → ((r : Cells) → old ≡ Some r → IsKeyOfElement 0 (row_key k)) → AllKeys (IsKeyOfElement 0) (exists_deletes k old new)
owned_deletes k None None p = tt
owned_deletes k None (Some r) p = tt
owned_deletes k (Some o) None p = (p o refl, tt)
owned_deletes k (Some o) (Some r) p = tt

by_removal : (c : Change) (P : Pairs) (x : Bytes) (o : Cells) → c.old ≡ Some o → Eff c P (written P (row_key c.key) None) x
by_removal c P x o was = elim (bytes_one x (row_key c.key)) [
  | inl e ↦ Gone o refl was (sym e) (ap (get (written P (row_key c.key) None)) e ∙ pair_here P _ None)
  | inr ne ↦ Stays (pair_apart P _ None x ne) (λ p w old at _. absurd (ne (sym at)))
]

by_same : (c : Change) (P : Pairs) (x : Bytes) (r : Cells) → c.new ≡ Some r → Eff c P P x
by_same c P x r is = Stays refl (λ p w old at _. record { cells = r; new_is = is; same_key = refl; same_value = refl })

effect_by : (c : Change) (P : Pairs) (x : Bytes) (old new : Option Cells) → c.old ≡ old → c.new ≡ new → Eff c P (written_all P (exists_by c.key old new)) x
effect_by c P x None None was is = Stays refl (λ o w old _ _. absurd (none_some o (sym was ∙ old)))
effect_by c P x None (Some r) was is = elim (bytes_one x (row_key c.key)) [
  | inl e ↦ Came r [] is (sym e) refl (ap (get (written P (row_key c.key) (Some []))) e ∙ pair_here P _ (Some []))
  | inr ne ↦ Stays (pair_apart P _ (Some []) x ne) (λ p w old at _. absurd (ne (sym at)))
]
effect_by c P x (Some o) None was is = by_removal c P x o was
effect_by c P x (Some o) (Some r) was is = by_same c P x r is

effect_deletes : (c : Change) (P : Pairs) (x : Bytes) (old new : Option Cells) → c.old ≡ old → c.new ≡ new → Eff c P (written_all P (exists_deletes c.key old new)) x
effect_deletes c P x None None was is = Stays refl (λ o w old _ _. absurd (none_some o (sym was ∙ old)))
effect_deletes c P x None (Some r) was is = Stays refl (λ o w old _ _. absurd (none_some o (sym was ∙ old)))
effect_deletes c P x (Some o) None was is = by_removal c P x o was
effect_deletes c P x (Some o) (Some r) was is = by_same c P x r is

stands_by : (c : Change) (P : Pairs) (old : Option Cells) → c.old ≡ old
    → ((o : Cells) (w : Bytes) → c.old ≡ Some o → Some [] ≡ Some w → get P (row_key c.key) ≡ Some w)
    → (r : Cells) → get (written_all P (exists_by c.key old (Some r))) (row_key c.key) ≡ Some []
stands_by c P None was stood r = pair_here P _ (Some [])
stands_by c P (Some o) was stood r = stood o [] was refl

shrinks_by : (c : Change) (P : Pairs) (old new : Option Cells) (x v : Bytes) → get (written_all P (exists_deletes c.key old new)) x ≡ Some v → get P x ≡ Some v
shrinks_by c P None None x v is = is
shrinks_by c P None (Some r) x v is = is
shrinks_by c P (Some o) None x v is = removed P _ x v is
shrinks_by c P (Some o) (Some r) x v is = is

exists_effect : (q : ElementState) (c : Change) (P : Pairs) → IsLive q → ChangesPublicOnly 0 q c → (x : Bytes) → Effect (exists_meaning) c P (pairs_after (exists_meaning) q c P) x
exists_effect Absent c P live only x = absurd live
exists_effect DeleteOnly c P live only x = effect_deletes c P x c.old c.new refl refl
exists_effect WriteOnly c P live only x = effect_by c P x c.old c.new refl refl
exists_effect Public c P live only x = effect_by c P x c.old c.new refl refl

exists_owned : (q : ElementState) (c : Change) → IsStorableChange c → AllKeys (IsKeyOfElement 0) (exists_writes q c)
exists_owned Absent c both = tt
exists_owned DeleteOnly c both = owned_deletes c.key c.old c.new (λ r e. row_owned_key c.key r (both.before r e))
exists_owned WriteOnly c both = owned_by c.key c.old c.new (λ r e. row_owned_key c.key r (both.before r e)) (λ r e. row_owned_key c.key r (both.after r e))
exists_owned Public c both = owned_by c.key c.old c.new (λ r e. row_owned_key c.key r (both.before r e)) (λ r e. row_owned_key c.key r (both.after r e))

-- the new row's pair is there after the operation, if the old row's was there before
abbrev StandsAfter : ElementState → Type 0
StandsAfter q = (c : Change) (P : Pairs)
    → ((o : Cells) (w : Bytes) → c.old ≡ Some o → Some [] ≡ Some w → get P (row_key c.key) ≡ Some w)
    → (r : Cells) (v : Bytes) → c.new ≡ Some r → Some [] ≡ Some v → get (pairs_after (exists_meaning) q c P) (row_key c.key) ≡ Some v

exists_stands : (q : ElementState) → IsTrue (exists_exact q) → StandsAfter q
exists_stands Absent e = absurd (no_test e)
exists_stands DeleteOnly e = absurd (no_test e)
exists_stands WriteOnly e = λ c P stood r v is val. ap (λ y. get (written_all P (exists_by c.key c.old y)) (row_key c.key)) is ∙ stands_by c P c.old refl stood r ∙ val
exists_stands Public e = λ c P stood r v is val. ap (λ y. get (written_all P (exists_by c.key c.old y)) (row_key c.key)) is ∙ stands_by c P c.old refl stood r ∙ val

exists_shrinks : (q : ElementState) (c : Change) (P : Pairs) → ¬ (Grows q) → (x v : Bytes) → get (pairs_after (exists_meaning) q c P) x ≡ Some v → get P x ≡ Some v
exists_shrinks Absent c P g x v is = is
exists_shrinks DeleteOnly c P g x v is = shrinks_by c P c.old c.new x v is
exists_shrinks WriteOnly c P g x v is = absurd (g tt)
exists_shrinks Public c P g x v is = absurd (g tt)

same_by : (k : RowKey) (f : Cells → List Value) (a b c d : Option Cells) → Alike f a c → Alike f b d → exists_by k a b ≡ exists_by k c d
same_by k f None b (Some s) d x y = absurd x
same_by k f (Some o) b None d x y = absurd x
same_by k f a None c (Some s) x y = absurd y
same_by k f a (Some r) c None x y = absurd y
same_by k f None None None None x y = refl
same_by k f None (Some r) None (Some s) x y = refl
same_by k f (Some o) None (Some p) None x y = refl
same_by k f (Some o) (Some r) (Some p) (Some s) x y = refl

same_deletes : (k : RowKey) (f : Cells → List Value) (a b c d : Option Cells) → Alike f a c → Alike f b d → exists_deletes k a b ≡ exists_deletes k c d
same_deletes k f None b (Some s) d x y = absurd x
same_deletes k f (Some o) b None d x y = absurd x
same_deletes k f a None c (Some s) x y = absurd y
same_deletes k f a (Some r) c None x y = absurd y
same_deletes k f None None None None x y = refl
same_deletes k f None (Some r) None (Some s) x y = refl
same_deletes k f (Some o) None (Some p) None x y = refl
same_deletes k f (Some o) (Some r) (Some p) (Some s) x y = refl

exists_same : (q : ElementState) (c d : Change) → c.key ≡ d.key → Alike (λ r. []) c.old d.old → Alike (λ r. []) c.new d.new → exists_writes q c ≡ exists_writes q d
exists_same Absent c d k x y = refl
exists_same DeleteOnly c d k x y = ap (λ t. exists_deletes t c.old c.new) k ∙ same_deletes d.key (λ r. []) c.old c.new d.old d.new x y
exists_same WriteOnly c d k x y = ap (λ t. exists_by t c.old c.new) k ∙ same_by d.key (λ r. []) c.old c.new d.old d.new x y
exists_same Public c d k x y = ap (λ t. exists_by t c.old c.new) k ∙ same_by d.key (λ r. []) c.old c.new d.old d.new x y

exists_live : (q : ElementState) → IsTrue (exists_exact q) → IsLive q
exists_live Absent e = absurd (no_test e)
exists_live DeleteOnly e = tt
exists_live WriteOnly e = tt
exists_live Public e = tt

exists_fills : (q : ElementState) → Grows q → IsTrue (exists_exact q)
exists_fills Absent e = absurd e
exists_fills DeleteOnly e = absurd e
exists_fills WriteOnly e = yes_test
exists_fills Public e = yes_test

pub exists_facts : KindFacts exists_meaning
exists_facts = record {
  owned = row_owned_key;
  writes_owned = exists_owned;
  absent = λ c. refl;
  same_writes = exists_same;
  effect = exists_effect;
  stands = λ q c P e only. exists_stands q e c P;
  no_growth = exists_shrinks;
  exact_is_live = exists_live;
  exact_public = yes_test;
  exact_where_grows = λ q _ g. exists_fills q g;
  no_pair = λ e. absurd (true≢false e);
  beside = λ p q e. absurd (no_test e);
}

exists_one : HasOneRow exists_meaning
exists_one k l r s held also at to e = one_row_key k l r s held also e

pub exists_laws : Laws exists_meaning
exists_laws = laws_from_facts exists_meaning exists_one (λ k r v e. yes_test) exists_facts
