-- Tables held under their names, in declared order.
use Rattle.std.proofs.Common.{◌≡◌, ℕ, ◌+◌, ◌<◌, Bool, true, false, not, ◌&&◌, ◌||◌, List, [], ◌∷◌, ◌++◌, length, get_or, take, drop, refl, sym, ap, subst, ◌∙◌, String, if◌then◌else◌}
use Rattle.std.specs.Prelude.{bytes_eq}
use Rattle.std.specs.String.{string_bytes}
use Rattle.std.specs.List.{list_any, AllByRecursion}
use Rattle.std.proofs.lemmas.List.{take_more, drop_more, take-append-drop}
use Rattle.indexmap.specs.IndexMap.{insert_entry}
use mathlib.Core.List.{map as each}
use Rattle.row_map.specs.declared.shape.ColumnType.{ColumnType}
use Rattle.schema_version.specs.Names.{is_distinct, is_among}
use Rattle.schema_version.specs.Version.{Table}
use Rattle.schema_version.specs.Held.{table_held}
use Rattle.schema_version.proofs.Lists.{not_both}

heads : {X : Type 0} {x y : X} {xs ys : List X} → x ∷ xs ≡ y ∷ ys → (x ≡ y) × (xs ≡ ys)
heads e = (cc, cc)

pub taken_apart : {X : Type 0} (xs : List X) (i : ℕ) (d : X) → i < length xs → xs ≡ take i xs ++ get_or xs i d ∷ drop (i + 1) xs
taken_apart xs i d lt = sym (take-append-drop i xs) ∙ ap (λ r. take i xs ++ r) (drop_more xs i d lt)

-- X has a table's name and its key
module _ {X : Type 0} (named : X → List ℕ) (keyed : X → List (List ℕ × ColumnType)) where
  abbrev pub table_by : X → Table
  table_by x = record { name = named x; key = keyed x }

  Apart : X → List X → Type 0
  Apart t before = AllByRecursion (λ (p : X). bytes_eq (named t) (named p) ≡ false) before

  held_last : {Y : Type 0} (eq : String Y → String Y → Bool) → ((s t : String Y) → eq s t ≡ bytes_eq (string_bytes s) (string_bytes t)) → (es : List (String Y × List (List ℕ × ColumnType))) (before : List X) (k : String Y) (v : List (List ℕ × ColumnType)) (t : X)
      → string_bytes k ≡ named t → v ≡ keyed t → Apart t before → each (table_held {Y = Y}) es ≡ each table_by before → each (table_held {Y = Y}) (insert_entry eq es k v) ≡ each table_by (before ++ t ∷ [])
  unfolding Apart
  held_last eq law [] [] k v t name key apart same = λ i. record { name = name i; key = key i } ∷ []
  held_last eq law [] (p ∷ before) k v t name key apart same = cc
  held_last eq law (e ∷ es) [] k v t name key apart same = cc
  held_last {Y} eq law (e ∷ es) (p ∷ before) k v t name key apart same =
      let h = heads same in
      let differ : eq k e.0 ≡ false = law k e.0 ∙ (λ i. bytes_eq (name i) (ap (λ (x : Table). x.name) h.0 i)) ∙ apart.0 in
      ap (each (table_held {Y = Y})) (ap (λ b. if b then (e.0, v) ∷ es else e ∷ insert_entry eq es k v) differ)
      ∙ (λ i. h.0 i ∷ held_last eq law es before k v t name key apart.1 h.1 i)

  any_middle : (test : List ℕ → Bool) (before after : List X) (t : X) → test (named t) ≡ true → list_any test (each named (before ++ t ∷ after)) ≡ true
  any_middle test [] after t p = ap (λ b. b || list_any test (each named after)) p
  any_middle test (x ∷ before) after t p = ap (λ b. test (named x) || b) (any_middle test before after t p) ∙ or_true (test (named x))
    where
      or_true : (b : Bool) → (b || true) ≡ true
      or_true true = refl
      or_true false = refl

  apart_of : (before after : List X) (t : X) → is_distinct (each named (before ++ t ∷ after)) ≡ true → Apart t before
  unfolding Apart
  apart_of [] after t e = tt
  apart_of (p ∷ before) after t e = (by (bytes_eq (named t) (named p)) refl, apart_of before after t (and_second (not (is_among (named p) (each named (before ++ t ∷ after)))) (is_distinct (each named (before ++ t ∷ after))) e))
    where
      and_second : (a b : Bool) → (a && b) ≡ true → b ≡ true
      and_second true b h = h
      and_second false b h = cc

      not_first : (a b : Bool) → (not a && b) ≡ true → a ≡ false
      not_first true b h = cc
      not_first false b h = refl

      by : (b : Bool) → bytes_eq (named t) (named p) ≡ b → bytes_eq (named t) (named p) ≡ false
      by false is = is
      by true is = absurd (not_both (any_middle (λ name. bytes_eq name (named p)) before after t is) (not_first (is_among (named p) (each named (before ++ t ∷ after))) (is_distinct (each named (before ++ t ∷ after))) e))

  pub held_more : {Y : Type 0} (eq : String Y → String Y → Bool) → ((s t : String Y) → eq s t ≡ bytes_eq (string_bytes s) (string_bytes t)) → (es : List (String Y × List (List ℕ × ColumnType))) (ts : List X) (i : ℕ) (k : String Y) (v : List (List ℕ × ColumnType)) (t : X)
      → is_distinct (each named ts) ≡ true → i < length ts → t ≡ get_or ts i t → string_bytes k ≡ named t → v ≡ keyed t
      → each (table_held {Y = Y}) es ≡ each table_by (take i ts) → each (table_held {Y = Y}) (insert_entry eq es k v) ≡ each table_by (take (i + 1) ts)
  held_more {Y} eq law es ts i k v t distinct lt is name key same =
      let whole : ts ≡ take i ts ++ t ∷ drop (i + 1) ts = taken_apart ts i t lt ∙ ap (λ x. take i ts ++ x ∷ drop (i + 1) ts) (sym is) in
      held_last eq law es (take i ts) k v t name key (apart_of (take i ts) (drop (i + 1) ts) t (subst (λ l. is_distinct (each named l) ≡ true) whole distinct)) same
      ∙ ap (each table_by) (ap (λ x. take i ts ++ x ∷ []) is ∙ sym (take_more ts i t lt))
