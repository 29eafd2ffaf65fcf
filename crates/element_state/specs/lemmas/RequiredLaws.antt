-- Cited by proofs and by the specs that need them: Kinds.
-- The laws of a required column.
use Rattle.std.specs.Prelude.{◌≡◌, ℕ, ◌+◌, ◌<◌, ◌^◌, true, false, IsTrue, List, [], ◌∷◌, Option, Some, None, cond, unwrap_or, refl}
use Rattle.std.specs.FinMap.{get}
use Rattle.std.specs.Cmp.{Equal-is}
use Rattle.std.proofs.Common.{true≢false, ap₂, sym, ap, ◌∙◌, inl, inr}
use Rattle.keycode.specs.declared.value.Value.{Value}
use Rattle.keycode.specs.Code.{code}
use Rattle.keycode.specs.Order.{value_cmp}
use Rattle.keycode.proofs.Orders.{value_cmp-IsAntisymmetric}
use Rattle.row_map.specs.Rows.{Bytes, RowKey, Cells, Pairs}
use Rattle.row_map.specs.Writes.{written, written_all, AllKeys}
use Rattle.schema_version.specs.declared.element.ElementState.{ElementState}
use Rattle.schema_version.specs.declared.element.ElementState.TheVariants.{Absent, DeleteOnly, WriteOnly, Public}
use Rattle.element_state.specs.Elements.{Alike, Change, ChangesPublicOnly, IsStorableChange, cell, IsKeyOfElement}
use Rattle.element_state.specs.Laws.{pairs_after, Grows, IsLive, Laws}
use Rattle.element_state.specs.lemmas.Effects.{Effect, Stays, Gone, Came, KindFacts, bytes_one, pair_here, pair_apart}
use Rattle.element_state.specs.Index.{index_exact}
use Rattle.element_state.specs.lemmas.IndexLaws.{no_test, yes_test, filled_live, filled_grows, filled_beside}
use Rattle.element_state.specs.Tables.{table_laws}
use Rattle.element_state.specs.Column.{column_pair, column_deletes, IsLawfulColumn, column_clear}
use Rattle.element_state.specs.lemmas.ColumnLaws.{column_owned_key, column_row, owned_deletes, deletes_shrink, same_deletes, cell_clears}
use Rattle.element_state.specs.Required.{required_value, required_code, same_value, required_hidden, required_public, required_writes, required_sees, required_meaning, required_of}
use Rattle.element_state.specs.Items.{ClearFacts}
use Rattle.element_state.specs.lemmas.Apart.{hidden_not_public, none_some, some_one}

same_value_is : (v w : Value) → same_value v w ≡ true → v ≡ w
same_value_is v w e = value_cmp-IsAntisymmetric v w ((Equal-is (value_cmp v w)).0 e)

module _ (n : ℕ) (fallback : Value) where
  -- what an operation does to the column's pair at one key
  abbrev Eff : Change → Pairs → Pairs → Bytes → Type 0
  Eff c P Q x = Effect (required_meaning n fallback) c P Q x

  abbrev Owned : RowKey → Option Cells → Type 0
  Owned k row = (r : Cells) → row ≡ Some r → IsKeyOfElement n (column_pair n k)

  owned_hidden : (k : RowKey) (old new : Option Cells) → Owned k old → Owned k new → AllKeys (IsKeyOfElement n) (required_hidden n fallback k old new)
  owned_hidden k None None p q = tt
  owned_hidden k None (Some r) p q = (q r refl, tt)
  owned_hidden k (Some o) None p q = (p o refl, tt)
  owned_hidden k (Some o) (Some r) p q = tt

  owned_public : (k : RowKey) (old new : Option Cells) → Owned k old → Owned k new → AllKeys (IsKeyOfElement n) (required_public n fallback k old new)
  owned_public k None None p q = tt
  owned_public k None (Some r) p q = (q r refl, tt)
  owned_public k (Some o) None p q = (p o refl, tt)
  owned_public k (Some o) (Some r) p q =
      elim (same_value (required_value n fallback o) (required_value n fallback r)) as (λ t. AllKeys (IsKeyOfElement n) (cond t [] ((column_pair n k, Some (required_code n fallback r)) ∷ []))) [ true ↦ tt | false ↦ (p o refl, tt) ]

  -- the pair of the new row's value is put
  by_put : (c : Change) (P : Pairs) (x : Bytes) (r : Cells) (v : Bytes) → c.new ≡ Some r → required_code n fallback r ≡ v → Eff c P (written P (column_pair n c.key) (Some v)) x
  by_put c P x r v is val = elim (bytes_one x (column_pair n c.key)) [
    | inl e ↦ Came r v is (sym e) (ap Some val) (ap (get (written P (column_pair n c.key) (Some v))) e ∙ pair_here P _ (Some v))
    | inr ne ↦ Stays (pair_apart P _ (Some v) x ne) (λ p w old at _. absurd (ne (sym at)))
  ]

  by_removal : (c : Change) (P : Pairs) (x : Bytes) (o : Cells) → c.old ≡ Some o → Eff c P (written P (column_pair n c.key) None) x
  by_removal c P x o was = elim (bytes_one x (column_pair n c.key)) [
    | inl e ↦ Gone o refl was (sym e) (ap (get (written P (column_pair n c.key) None)) e ∙ pair_here P _ None)
    | inr ne ↦ Stays (pair_apart P _ None x ne) (λ p w old at _. absurd (ne (sym at)))
  ]

  by_same : (c : Change) (P : Pairs) (x : Bytes) (o r : Cells) → c.old ≡ Some o → c.new ≡ Some r → required_value n fallback o ≡ required_value n fallback r → Eff c P P x
  by_same c P x o r was is e =
      Stays refl (λ p w old at _. record { cells = r; new_is = is; same_key = refl; same_value = ap (λ v. Some (code v)) (sym e ∙ ap (required_value n fallback) (some_one o p (sym was ∙ old))) })

  no_old : (c : Change) (P : Pairs) (x : Bytes) → c.old ≡ None → Eff c P P x
  no_old c P x was = Stays refl (λ o w old _ _. absurd (none_some o (sym was ∙ old)))

  -- an operation that may not name the column leaves the row's value
  unchanged : (c : Change) (o r : Cells) → c.old ≡ Some o → get r n ≡ cell c.old n → required_value n fallback o ≡ required_value n fallback r
  unchanged c o r was only = ap (λ v. unwrap_or v fallback) (sym (only ∙ ap (λ s. cell s n) was))

  inserted_default : (c : Change) (r : Cells) → c.old ≡ None → get r n ≡ cell c.old n → required_code n fallback r ≡ code fallback
  inserted_default c r was only = ap (λ v. code (unwrap_or v fallback)) (only ∙ ap (λ s. cell s n) was)

  effect_deletes : (c : Change) (P : Pairs) (x : Bytes) (old new : Option Cells) → c.old ≡ old → c.new ≡ new → ((r : Cells) → c.new ≡ Some r → get r n ≡ cell c.old n) → Eff c P (written_all P (column_deletes n c.key old new)) x
  effect_deletes c P x None None was is only = no_old c P x was
  effect_deletes c P x None (Some r) was is only = no_old c P x was
  effect_deletes c P x (Some o) None was is only = by_removal c P x o was
  effect_deletes c P x (Some o) (Some r) was is only = by_same c P x o r was is (unchanged c o r was (only r is))

  effect_hidden : (c : Change) (P : Pairs) (x : Bytes) (old new : Option Cells) → c.old ≡ old → c.new ≡ new → ((r : Cells) → c.new ≡ Some r → get r n ≡ cell c.old n) → Eff c P (written_all P (required_hidden n fallback c.key old new)) x
  effect_hidden c P x None None was is only = no_old c P x was
  effect_hidden c P x None (Some r) was is only = by_put c P x r (code fallback) is (inserted_default c r was (only r is))
  effect_hidden c P x (Some o) None was is only = by_removal c P x o was
  effect_hidden c P x (Some o) (Some r) was is only = by_same c P x o r was is (unchanged c o r was (only r is))

  effect_public : (c : Change) (P : Pairs) (x : Bytes) (old new : Option Cells) → c.old ≡ old → c.new ≡ new → Eff c P (written_all P (required_public n fallback c.key old new)) x
  effect_public c P x None None was is = no_old c P x was
  effect_public c P x None (Some r) was is = by_put c P x r (required_code n fallback r) is refl
  effect_public c P x (Some o) None was is = by_removal c P x o was
  effect_public c P x (Some o) (Some r) was is =
      elim (same_value (required_value n fallback o) (required_value n fallback r))
      as (λ t. same_value (required_value n fallback o) (required_value n fallback r) ≡ t → Eff c P (written_all P (cond t [] ((column_pair n c.key, Some (required_code n fallback r)) ∷ []))) x) [
        | true ↦ λ e. by_same c P x o r was is (same_value_is _ _ e)
        | false ↦ λ e. by_put c P x r (required_code n fallback r) is refl
      ] refl

  required_effect : (q : ElementState) (c : Change) (P : Pairs) → IsLive q → ChangesPublicOnly n q c → (x : Bytes) → Effect (required_meaning n fallback) c P (pairs_after (required_meaning n fallback) q c P) x
  required_effect Absent c P live only x = absurd live
  required_effect DeleteOnly c P live only x = effect_deletes c P x c.old c.new refl refl (only (hidden_not_public DeleteOnly tt))
  required_effect WriteOnly c P live only x = effect_hidden c P x c.old c.new refl refl (only (hidden_not_public WriteOnly tt))
  required_effect Public c P live only x = effect_public c P x c.old c.new refl refl

  -- the old row's pair is there
  abbrev Stood : Change → Pairs → Type 0
  Stood c P = (o : Cells) (w : Bytes) → c.old ≡ Some o → Some (required_code n fallback o) ≡ Some w → get P (column_pair n c.key) ≡ Some w

  stands_hidden : (c : Change) (P : Pairs) (old : Option Cells) → c.old ≡ old → Stood c P → (r : Cells) → get r n ≡ cell c.old n
      → get (written_all P (required_hidden n fallback c.key old (Some r))) (column_pair n c.key) ≡ Some (required_code n fallback r)
  stands_hidden c P None was stood r only = pair_here P _ (Some (code fallback)) ∙ ap Some (sym (inserted_default c r was only))
  stands_hidden c P (Some o) was stood r only = stood o (required_code n fallback r) was (ap (λ v. Some (code v)) (unchanged c o r was only))

  stands_public : (c : Change) (P : Pairs) (old : Option Cells) → c.old ≡ old → Stood c P → (r : Cells)
      → get (written_all P (required_public n fallback c.key old (Some r))) (column_pair n c.key) ≡ Some (required_code n fallback r)
  stands_public c P None was stood r = pair_here P _ (Some (required_code n fallback r))
  stands_public c P (Some o) was stood r =
      elim (same_value (required_value n fallback o) (required_value n fallback r))
      as (λ t. same_value (required_value n fallback o) (required_value n fallback r) ≡ t
      → get (written_all P (cond t [] ((column_pair n c.key, Some (required_code n fallback r)) ∷ []))) (column_pair n c.key) ≡ Some (required_code n fallback r)) [
        | true ↦ λ e. stood o (required_code n fallback r) was (ap (λ v. Some (code v)) (same_value_is _ _ e))
        | false ↦ λ e. pair_here P (column_pair n c.key) (Some (required_code n fallback r))
      ] refl

  -- the new row's pair is there after the operation, if the old row's was there before
  abbrev StandsAfter : ElementState → Type 0
  StandsAfter q = (c : Change) (P : Pairs) → ChangesPublicOnly n q c → Stood c P
      → (r : Cells) (v : Bytes) → c.new ≡ Some r → Some (required_code n fallback r) ≡ Some v → get (pairs_after (required_meaning n fallback) q c P) (column_pair n c.key) ≡ Some v

  required_stands : (q : ElementState) → IsTrue (index_exact q) → StandsAfter q
  required_stands Absent e = absurd (no_test e)
  required_stands DeleteOnly e = absurd (no_test e)
  required_stands WriteOnly e = λ c P only stood r v is val.
      ap (λ y. get (written_all P (required_hidden n fallback c.key c.old y)) (column_pair n c.key)) is ∙ stands_hidden c P c.old refl stood r (only (hidden_not_public WriteOnly tt) r is) ∙ val
  required_stands Public e = λ c P only stood r v is val.
      ap (λ y. get (written_all P (required_public n fallback c.key c.old y)) (column_pair n c.key)) is ∙ stands_public c P c.old refl stood r ∙ val

  required_shrinks : (q : ElementState) (c : Change) (P : Pairs) → ¬ (Grows q) → (x v : Bytes) → get (pairs_after (required_meaning n fallback) q c P) x ≡ Some v → get P x ≡ Some v
  required_shrinks Absent c P g x v is = is
  required_shrinks DeleteOnly c P g x v is = deletes_shrink n c P c.old c.new x v is
  required_shrinks WriteOnly c P g x v is = absurd (g tt)
  required_shrinks Public c P g x v is = absurd (g tt)

  required_owned : IsLawfulColumn n → (q : ElementState) (c : Change) → IsStorableChange c → AllKeys (IsKeyOfElement n) (required_writes n fallback q c)
  required_owned lawful Absent c both = tt
  required_owned lawful DeleteOnly c both = owned_deletes n c.key c.old c.new (λ r e. column_owned_key n lawful c.key r (both.before r e))
  required_owned lawful WriteOnly c both = owned_hidden c.key c.old c.new (λ r e. column_owned_key n lawful c.key r (both.before r e)) (λ r e. column_owned_key n lawful c.key r (both.after r e))
  required_owned lawful Public c both = owned_public c.key c.old c.new (λ r e. column_owned_key n lawful c.key r (both.before r e)) (λ r e. column_owned_key n lawful c.key r (both.after r e))

  -- ---- a server that sees the value writes the same

  one_of : (v w : Value) → ◌≡◌ {A = List Value} (v ∷ []) (w ∷ []) → v ≡ w
  one_of v w e = cc

  same_hidden : (k : RowKey) (a b c d : Option Cells) → Alike (λ r. []) a c → Alike (λ r. []) b d → required_hidden n fallback k a b ≡ required_hidden n fallback k c d
  same_hidden k None b (Some s) d x y = absurd x
  same_hidden k (Some o) b None d x y = absurd x
  same_hidden k a None c (Some s) x y = absurd y
  same_hidden k a (Some r) c None x y = absurd y
  same_hidden k None None None None x y = refl
  same_hidden k None (Some r) None (Some s) x y = refl
  same_hidden k (Some o) None (Some p) None x y = refl
  same_hidden k (Some o) (Some r) (Some p) (Some s) x y = refl

  same_public : (k : RowKey) (a b c d : Option Cells) → Alike (λ r. required_value n fallback r ∷ []) a c → Alike (λ r. required_value n fallback r ∷ []) b d → required_public n fallback k a b ≡ required_public n fallback k c d
  same_public k None b (Some s) d x y = absurd x
  same_public k (Some o) b None d x y = absurd x
  same_public k a None c (Some s) x y = absurd y
  same_public k a (Some r) c None x y = absurd y
  same_public k None None None None x y = refl
  same_public k None (Some r) None (Some s) x y = ap (λ v. (column_pair n k, Some (code v)) ∷ []) (one_of (required_value n fallback r) (required_value n fallback s) y)
  same_public k (Some o) None (Some p) None x y = refl
  same_public k (Some o) (Some r) (Some p) (Some s) x y =
      ap₂ (λ v w. cond (same_value v w) [] ((column_pair n k, Some (code w)) ∷ [])) (one_of (required_value n fallback o) (required_value n fallback p) x) (one_of (required_value n fallback r) (required_value n fallback s) y)

  required_same : (q : ElementState) (c d : Change) → c.key ≡ d.key → Alike (required_sees n fallback q) c.old d.old → Alike (required_sees n fallback q) c.new d.new → required_writes n fallback q c ≡ required_writes n fallback q d
  required_same Absent c d k x y = refl
  required_same DeleteOnly c d k x y = ap (λ t. column_deletes n t c.old c.new) k ∙ same_deletes n d.key (required_sees n fallback DeleteOnly) c.old c.new d.old d.new x y
  required_same WriteOnly c d k x y = ap (λ t. required_hidden n fallback t c.old c.new) k ∙ same_hidden d.key c.old c.new d.old d.new x y
  required_same Public c d k x y = ap (λ t. required_public n fallback t c.old c.new) k ∙ same_public d.key c.old c.new d.old d.new x y

  pub required_facts : IsLawfulColumn n → KindFacts (required_meaning n fallback)
  required_facts lawful = record {
    owned = column_owned_key n lawful;
    writes_owned = required_owned lawful;
    absent = λ c. refl;
    same_writes = required_same;
    effect = required_effect;
    stands = λ q c P e. required_stands q e c P;
    no_growth = required_shrinks;
    exact_is_live = filled_live;
    exact_public = yes_test;
    exact_where_grows = λ q _ g. filled_grows q g;
    no_pair = λ e. absurd (true≢false e);
    beside = filled_beside (required_meaning n fallback) yes_test;
  }

pub required_laws : (table n : ℕ) (fallback : Value) → IsLawfulColumn n → Laws (required_of table n fallback)
required_laws table n fallback lawful = table_laws table (required_meaning n fallback) (required_facts n fallback lawful) (column_row n lawful table)

-- ---- its clear, which goes by rows as that of any column

pub required_clears : (table n : ℕ) (fallback : Value) → table + 1 < 2 ^ 32 → IsLawfulColumn n → ClearFacts (required_of table n fallback) (column_clear table n)
required_clears table n fallback fits lawful = cell_clears table n fits lawful (required_meaning n fallback) refl (λ k r. refl)
