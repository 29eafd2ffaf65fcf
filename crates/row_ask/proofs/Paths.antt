-- The path that is taken is the plain one.
use Rattle.std.proofs.Common.{◌≡◌, ℕ, Bool, true, false, cond, ◌&&◌, ◌||◌, ◌==◌, List, [], ◌∷◌, Option, Some, None, refl, sym, ap, ◌∙◌, true≢false}
use Rattle.std.specs.List.{find, list_any}
use Rattle.keycode.specs.declared.value.Value.{Value}
use Rattle.schema_version.specs.Version.{Version, element_at, live, indexed_columns, is_public}
use Rattle.schema_version.specs.declared.element.ElementDef.{ElementDef}
use Rattle.schema_version.specs.Sound.{IsSoundVersion}
use Rattle.row_query.specs.declared.query.Cond.{Cond}
use Rattle.row_query.specs.declared.query.Cond.TheVariants.{Key, Equal, Between}
use Rattle.row_query.specs.declared.query.Query.{Query}
use Rattle.row_query.specs.declared.query.Path.{Path}
use Rattle.row_query.specs.declared.query.Path.TheVariants as path
use Rattle.row_query.specs.Path.{is_on_key, is_on, leads, serves, by_index, plain_path}
use Rattle.row_query.specs.inner.Bounds.{first_key, leading}
use Rattle.row_query.proofs.Columns.{both_true, find_says, found_at}

has_key : (cs : List Cond) (wanted : List Value) → first_key cs ≡ Some wanted → list_any is_on_key cs ≡ true
has_key [] wanted e = absurd cc
has_key (Key other ∷ cs) wanted e = refl
has_key (Equal column value ∷ cs) wanted e = has_key cs wanted e
has_key (Between column low high ∷ cs) wanted e = has_key cs wanted e

no_key : (cs : List Cond) → first_key cs ≡ None → list_any is_on_key cs ≡ false
no_key [] e = refl
no_key (Key other ∷ cs) e = absurd cc
no_key (Equal column value ∷ cs) e = no_key cs e
no_key (Between column low high ∷ cs) e = no_key cs e

pub path_by_key : (v : Version) (q : Query) (wanted : List Value) → first_key q.conditions ≡ Some wanted → path.Key ≡ plain_path v q
path_by_key v q wanted e = ap (λ b. cond b path.Key (by_index (find (serves q) (live v)))) (sym (has_key q.conditions wanted e))

-- the index that a path names
abbrev named_index : Version → Path → Option ElementDef
named_index v path.Key = None
named_index v (path.Index number) = element_at v number
named_index v path.Scan = None

pub index_served : (v : Version) → IsSoundVersion v → (q : Query) → first_key q.conditions ≡ None → (p : Path) → p ≡ plain_path v q → named_index v p ≡ find (serves q) (live v)
index_served v known q none p is =
    ap (named_index v) (is ∙ ap (λ b. cond b path.Key (by_index (find (serves q) (live v)))) (no_key q.conditions none))
    ∙ elim (find (serves q) (live v)) as (λ o. find (serves q) (live v) ≡ o → named_index v (by_index o) ≡ o) [
      | None ↦ λ _. refl
      | Some e ↦ λ found. found_at v known e (find_says (serves q) (live v) e found).0
    ] refl

pub path_by_index : (v : Version) (q : Query) (o : Option ElementDef) → first_key q.conditions ≡ None → o ≡ find (serves q) (live v) → by_index o ≡ plain_path v q
path_by_index v q o none is = ap by_index is ∙ ap (λ b. cond b path.Key (by_index (find (serves q) (live v)))) (sym (no_key q.conditions none))

none_such : (test : Cond → Bool) (cs : List Cond) → find test cs ≡ None → list_any test cs ≡ false
none_such test [] e = refl
none_such test (c ∷ cs) e =
    elim (test c) as (λ b. test c ≡ b → cond b (Some c) (find test cs) ≡ None → (b || list_any test cs) ≡ false) [
      | true ↦ λ t h. absurd cc
      | false ↦ λ t h. none_such test cs h
    ] refl e

no_lead : (cs : List Cond) (columns : List ℕ) → leading cs columns ≡ None → leads cs columns ≡ false
no_lead cs [] e = refl
no_lead cs (first ∷ others) e = none_such (is_on first) cs e

-- an index that serves has a condition on its first column
pub has_lead : (v : Version) (q : Query) (e : ElementDef) → find (serves q) (live v) ≡ Some e → leading q.conditions (indexed_columns e.kind) ≡ None → ⊥
has_lead v q e is none =
    let found = find_says (serves q) (live v) e is in
    let led = (both_true ((e.table == q.table) && is_public e.state) (leads q.conditions (indexed_columns e.kind)) found.1).1 in
    true≢false (sym led ∙ no_lead q.conditions (indexed_columns e.kind) none)
