-- What a fill reads of a row is right in a store that agrees with a sound version.
use Rattle.std.proofs.Common.{◌≡◌, ℕ, zero, suc, ◌≤◌, List, [], ◌∷◌, Some, refl, subst, arith, Contains}
use Rattle.std.specs.List.{AllByRecursion}
use Rattle.row_map.specs.Rows.{Rows, Pairs}
use Rattle.schema_version.specs.declared.element.ElementDef.{ElementDef}
use Rattle.schema_version.specs.declared.element.ElementState.{ElementState}
use Rattle.schema_version.specs.declared.element.ElementState.TheVariants.{Absent, DeleteOnly, WriteOnly, Public}
use Rattle.schema_version.specs.declared.element.Kind.{Kind}
use Rattle.schema_version.specs.declared.element.Kind.TheVariants.{Index, Optional, Required}
use Rattle.schema_version.specs.Sound.{IsSoundElement, IsSoundVersion}
use Rattle.schema_version.specs.Version.{Version, element_at, indexed_columns, IsPublicColumn}
use Rattle.schema_version.specs.Moves.{IsFairKind}
use Rattle.element_state.specs.Column.{IsLawfulColumn}
use Rattle.element_state.specs.Consistent.{DemandOf}
use Rattle.element_state.specs.Core.{NoCell}
use Rattle.element_state.specs.Elements.{Meaning, Subset, Demand}
use Rattle.element_state.specs.Kinds.{kind_meaning}
use Rattle.element_state.specs.Sources.{source_in}
use Rattle.element_state.specs.Tables.{within}
use Rattle.element_state.proofs.Visible.{short_typed}
use Rattle.element_state.proofs.Sources.{default_value_storable}
use Rattle.reorganise.specs.Laws.{HasColumn, HasColumnsOf, ColumnsAgree}

-- a live element has only pairs that the rows give it
demand_subset : (m : Meaning) (q : ElementState) (P : Pairs) (R : Rows) → ((q ≡ Absent) → ⊥) → Demand m q P R → Subset m P R
demand_subset m Absent P R live demand = absurd (live refl)
demand_subset m DeleteOnly P R live demand = demand
demand_subset m WriteOnly P R live demand = demand
demand_subset m Public P R live demand = demand.subset

module _ (version : Version) (element : ElementDef) (P : Pairs) (R : Rows) (sound : IsSoundVersion version) (here : element_at version element.number ≡ Some element) (demands : (n : ℕ) → 1 ≤ n → DemandOf version n (element_at version n) P R) (bare : NoCell element.number R) where
  sure : IsSoundElement version element.number element
  sure = sound.elements element.number element here

  lawful_at : (n : ℕ) (e : ElementDef) → element_at version n ≡ Some e → IsLawfulColumn n
  lawful_at n e at =
      let s : IsSoundElement version n e = sound.elements n e at in
      record { above = omega (arith, s.first); below = omega (arith, s.given, sound.few_elements) }

  column_has : (c : ℕ) → IsPublicColumn version element.table c → HasColumn version element.table P R c
  column_has c public = record {
    lawful = lawful_at c public.0 public.2;
    public = public;
    demand = demands c (sound.elements c public.0 public.2).first;
    default_value = default_value_storable version (λ n e at. (sound.elements n e at).fair) c;
  }

  columns_have : (cs : List ℕ) → ((c : ℕ) → Contains cs c → IsPublicColumn version element.table c) → AllByRecursion (HasColumn version element.table P R) cs
  columns_have [] f = tt
  columns_have (c ∷ cs) f = (column_has c (f c (zero, omega arith, refl)), columns_have cs (λ d has. f d (suc has.0, omega (arith, has.1), has.2)))

  by_kind : (k : Kind) → element.kind ≡ k → ((c : ℕ) → Contains (indexed_columns k) c → IsPublicColumn version element.table c) → IsFairKind k → Demand (within element.table (kind_meaning element.number (source_in version k))) element.state P R → HasColumnsOf version element P R k
  by_kind (Index columns) is listed_public fair demand = columns_have columns listed_public
  by_kind (Optional type) is listed_public fair demand = tt
  by_kind (Required type fallback) is listed_public fair demand = record {
    lawful = lawful_at element.number element here;
    bare = bare;
    subset = demand_subset (within element.table (kind_meaning element.number (source_in version (Required type fallback)))) element.state P R sure.live demand;
    storable = (fair.1, (short_typed type fallback fair.0).0);
  }

pub columns_agree : ColumnsAgree
columns_agree version element P R sound here demands bare =
    let s : IsSoundElement version element.number element = sound.elements element.number element here in
    by_kind version element P R sound here demands bare element.kind refl s.columns s.fair (subst (λ o. DemandOf version element.number o P R) here (demands element.number s.first))
