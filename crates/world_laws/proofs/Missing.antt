-- No pair of a public index or required column is missing.
use Rattle.std.proofs.Common.{◌≡◌, ℕ, ◌==◌, ◌&&◌, true, false, List, [], ◌∷◌, Option, Some, None, is_some, refl, sym, ap, subst, ◌∙◌, eqb-true, true≢false, not, Bool, cond, eq-eqb}
use Rattle.row_query.proofs.Premise.{Reads}
use Rattle.element_state.specs.Tables.{within}
use Rattle.element_state.specs.Required.{required_code}
use Rattle.element_state.specs.Sources.{source_in}
use Rattle.element_state.specs.Kinds.{kind_meaning}
use Rattle.element_state.specs.Elements.{Exact, Demand}
use Rattle.schema_version.specs.declared.element.ElementState.{ElementState}
use Rattle.std.proofs.lemmas.Slice.Eq.{bytes_eq-Decides}
use Rattle.std.specs.Prelude.{sum_by}
use Rattle.std.specs.Cmp.{nat_cmp_total}
use Rattle.std.specs.FinMap as map
use Rattle.std.specs.FinMap.{nat_cmp-IsAntisymmetric}
use Rattle.std.specs.List.{AllByRecursion}
use Rattle.std.specs.Ordering.{nat_cmp}
use mathlib.Core.List.{map as each}
use Rattle.audit.specs.Audit.{given, differs, is_absent, lacks, missing_by, missing_beside}
use Rattle.audit.specs.Encoded.{row_at}
use Rattle.keycode.specs.declared.value.Value.{Value}
use Rattle.keycode.specs.Order.{bytes_cmp}
use Rattle.keycode.proofs.Orders.{bytes_cmp_total, bytes_cmp-IsAntisymmetric}
use Rattle.row_map.specs.declared.key.KeyOf.{KeyOf}
use Rattle.row_map.specs.declared.key.KeyOf.TheVariants.{Exists, Column, Index as IndexKey}
use Rattle.row_map.specs.Keys.{IsKey, key_code}
use Rattle.row_map.specs.Rows.{Bytes, Cells, Rows, Pairs}
use Rattle.row_map.proofs.Entries.{each_entry}
use Rattle.schema_version.specs.declared.element.Kind.{Kind}
use Rattle.schema_version.specs.declared.element.Kind.TheVariants.{Index, Optional, Required}
use Rattle.schema_version.specs.declared.element.ElementDef.{ElementDef}
use Rattle.schema_version.specs.Sound.{IsSoundVersion}
use Rattle.schema_version.specs.Version.{Version, element_at, live, is_public}
use Rattle.element_state.specs.Consistent.{IsConsistent, DemandOf}
use Rattle.row_query.proofs.Columns.{both_true, public_is}
use Rattle.world_laws.proofs.ArcValue.{read_again}
use Rattle.world_laws.proofs.Encoded.{given_pair, given_value, given_none}
use Rattle.world_laws.proofs.Sums.{sum_none, count_none}

pub some_there : {A : Type 0} (o : Option A) → is_some o ≡ true → (a : A) × (o ≡ Some a)
some_there None e = absurd (true≢false (sym e))
some_there (Some a) e = (a, refl)

all_each : {K X : Type 0} (P : X → Type 0) (es : List (K × X)) → AllByRecursion (λ (e : K × X). P e.1) es → AllByRecursion P (each (λ (e : K × X). e.1) es)
all_each P [] all = tt
all_each P (e ∷ es) all = (all.0, all_each P es all.1)

-- bytes that are there do not differ from themselves
there_same : (o : Option Bytes) (w : Bytes) → o ≡ Some w → differs o w ≡ false
there_same o w there = ap (λ (p : Option Bytes). differs p w) there ∙ ap not ((bytes_eq-Decides w w).1 refl)

module _ (version : Version) (sound : IsSoundVersion version) (rows : Rows) (pairs : Pairs) (agree : IsConsistent version rows pairs) (reads : Reads version rows pairs) where
  -- a public element has the pair that a row of its table gives it
  has_pair : (n : ℕ) (element : ElementDef) (k : Kind) → element_at version n ≡ Some element → element.kind ≡ k → is_public element.state ≡ true → (primary : List Value) (cells : Cells) → map.get rows (element.table, primary) ≡ Some cells
      → (w : Bytes) → (kind_meaning n (source_in version k)).pair_value (element.table, primary) cells ≡ Some w → map.get pairs ((kind_meaning n (source_in version k)).pair_key (element.table, primary) cells) ≡ Some w
  has_pair n element k at kind public primary cells here w gives =
      exact.covered (element.table, primary) cells w here (ap (λ (b : Bool). cond b ((kind_meaning n (source_in version k)).pair_value (element.table, primary) cells) None) (eq-eqb element.table element.table refl) ∙ gives)
    where
      exact : Exact (within element.table (kind_meaning n (source_in version k))) pairs rows
      exact =
          subst (λ (q : Kind). Exact (within element.table (kind_meaning n (source_in version q))) pairs rows) kind
          (subst (λ (q : ElementState). Demand (within element.table (kind_meaning n (source_in version element.kind))) q pairs rows) (public_is element.state public)
          (subst (λ (o : Option ElementDef). DemandOf version n o pairs rows) at (agree.elements n (sound.elements n element at).first)))

  -- a public element of the row's table
  present : (n : ℕ) (element : ElementDef) → element_at version n ≡ Some element → is_public element.state ≡ true → (primary : List Value) (cells : Cells) → map.get rows (element.table, primary) ≡ Some cells
      → is_absent pairs (given version element (row_at version pairs element.table primary)) ≡ false
  present n element at public primary cells here = by element.kind refl
    where
      by : (k : Kind) → element.kind ≡ k → is_absent pairs (given version element (row_at version pairs element.table primary)) ≡ false
      by (Index columns) kind =
          ap (is_absent pairs) (given_pair version sound rows pairs agree reads n element columns at kind primary cells here)
          ∙ there_same _ [] (has_pair n element (Index columns) at kind public primary cells here [] refl)
      by (Optional type) kind = ap (is_absent pairs) (given_none version sound rows pairs agree reads n element type at kind primary)
      by (Required type fallback) kind =
          ap (is_absent pairs) (given_value version sound rows pairs agree reads n element type fallback at kind (public_is element.state public) primary cells here)
          ∙ there_same _ (required_code n fallback cells) (has_pair n element (Required type fallback) at kind public primary cells here (required_code n fallback cells) refl)

  not_lacking : (n : ℕ) (element : ElementDef) → element_at version n ≡ Some element → (table : ℕ) (primary : List Value) (cells : Cells) → map.get rows (table, primary) ≡ Some cells → lacks version pairs table (row_at version pairs table primary) element ≡ false
  not_lacking n element at table primary cells here =
      elim ((element.table == table) && is_public element.state) as (λ b. ((element.table == table) && is_public element.state) ≡ b → (b && is_absent pairs (given version element (row_at version pairs table primary))) ≡ false) [
        | true ↦ λ own.
            let both = both_true (element.table == table) (is_public element.state) own in
            subst (λ (t : ℕ). map.get rows (t, primary) ≡ Some cells → is_absent pairs (given version element (row_at version pairs t primary)) ≡ false) (eqb-true element.table table both.0) (present n element at both.1 primary cells) here
        | false ↦ λ other. refl
      ] refl

  none_lacks : (table : ℕ) (primary : List Value) (cells : Cells) → map.get rows (table, primary) ≡ Some cells → missing_by version pairs (Some (Exists table primary)) ≡ 0
  none_lacks table primary cells here =
      count_none (lacks version pairs table (row_at version pairs table primary)) (live version)
      (all_each (λ (element : ElementDef). lacks version pairs table (row_at version pairs table primary) element ≡ false) (map.entries version.elements)
      (each_entry nat_cmp nat_cmp_total nat_cmp-IsAntisymmetric (λ n element. lacks version pairs table (row_at version pairs table primary) element ≡ false) version.elements
      (λ n element at. not_lacking n element at table primary cells here)))

  beside : (x w : Bytes) → map.get pairs x ≡ Some w → missing_beside version pairs (x, w) ≡ 0
  beside x w there =
      let form = agree.forms x w there in
      ap (missing_by version pairs) (read_again x form.key form.form form.encoded) ∙ by form.key form.form form.encoded
    where
      by : (k : KeyOf) → IsKey k → x ≡ key_code k → missing_by version pairs (Some k) ≡ 0
      by (Exists table primary) form encoded =
          let row = some_there (map.get rows (table, primary)) (reads.only_rows table primary w form (ap (map.get pairs) (sym encoded) ∙ there)) in
          none_lacks table primary row.0 row.1
      by (Column table primary number) form encoded = refl
      by (IndexKey number values) form encoded = refl

  pub none_missing : sum_by (missing_beside version pairs) (map.entries pairs) ≡ 0
  none_missing = sum_none (missing_beside version pairs) (map.entries pairs) (each_entry bytes_cmp bytes_cmp_total bytes_cmp-IsAntisymmetric (λ x w. missing_beside version pairs (x, w) ≡ 0) pairs beside)
