-- Sound versions are equal if their encodings are.
use Rattle.std.proofs.Common.{◌≡◌, ℕ, T, List, [], ◌∷◌, Option, Some, None, refl, sym, ap, subst, ◌∙◌}
use mathlib.Core.List.{map as each}
use Rattle.std.specs.List.{AllByRecursion}
use Rattle.std.specs.Ordering.{nat_cmp}
use Rattle.std.specs.FinMap.Entries.{is_sorted}
use Rattle.std.specs.Prelude.{Contains}
use Rattle.std.specs.String.{string_bytes}
use Rattle.std.specs.declared.string.String.{String}
use Rattle.std.specs.Cmp.{nat_cmp_total}
use Rattle.std.specs.FinMap as map
use Rattle.std.specs.FinMap.{nat_cmp-IsAntisymmetric}
use Rattle.std.specs.Map.{keys_of, values_of}
use Rattle.row_map.specs.declared.shape.ColumnType.{ColumnType}
use Rattle.schema_version.specs.declared.element.ElementDef.{ElementDef}
use Rattle.schema_version.specs.Version.{Version, Table, element_at, live, grouped}
use Rattle.schema_version.specs.Held.{table_held}
use Rattle.schema_version.specs.Sound.{IsSoundVersion}
use Rattle.schema_version.specs.inner.Encoding.{parts_bytes, encoding}
use Rattle.schema_version.proofs.Encoded.{HasFairKind, parts_tell}
use Rattle.schema_version.proofs.Lists.{here, later}
use Rattle.schema_version.proofs.Live.{live_has, live_from}
use Rattle.schema_version.proofs.Tables.{grouped_each}

option_same : {X : Type 0} (o p : Option X) → ((x : X) → o ≡ Some x → p ≡ Some x) → ((x : X) → p ≡ Some x → o ≡ Some x) → o ≡ p
option_same None None f g = refl
option_same None (Some x) f g = g x refl
option_same (Some x) p f g = sym (f x refl)

one_way : (a b : Version) → IsSoundVersion a → IsSoundVersion b → live a ≡ live b → (n : ℕ) (e : ElementDef) → element_at a n ≡ Some e → element_at b n ≡ Some e
one_way a b left right same n e at =
    let found = live_from b e (subst (λ (l : List ElementDef). Contains l e) same (live_has a n e at)) in
    let place : found.0 ≡ n = sym (right.elements found.0 e found.1).own ∙ (left.elements n e at).own in
    subst (λ k. element_at b k ≡ Some e) place found.1

-- elements stand under their own numbers
pub same_map : (a b : Version) → IsSoundVersion a → IsSoundVersion b → live a ≡ live b → a.elements ≡ b.elements
same_map a b left right same = map.same_map nat_cmp_total nat_cmp-IsAntisymmetric a.elements b.elements
    (λ n. option_same (element_at a n) (element_at b n) (one_way a b left right same n) (one_way b a right left (sym same) n))

heads : {X : Type 0} (x y : X) (xs ys : List X) → x ∷ xs ≡ y ∷ ys → x ≡ y
heads x y xs ys e = cc

tails : {X : Type 0} (x y : X) (xs ys : List X) → x ∷ xs ≡ y ∷ ys → xs ≡ ys
tails x y xs ys e = cc

pub names_of_held : {Y : Type 0} (es : List (String Y × List (List ℕ × ColumnType))) → each (λ (t : Table). t.name) (each table_held es) ≡ each string_bytes (keys_of es)
names_of_held [] = refl
names_of_held (e ∷ es) = ap (λ (l : List (List ℕ)). string_bytes e.0 ∷ l) (names_of_held es)

pub keys_of_held : {Y : Type 0} (es : List (String Y × List (List ℕ × ColumnType))) → each (λ (t : Table). t.key) (each table_held es) ≡ values_of es
keys_of_held [] = refl
keys_of_held (e ∷ es) = ap (λ (l : List (List (List ℕ × ColumnType))). e.1 ∷ l) (keys_of_held es)

tables_same : (ts us : List Table) → each (λ (t : Table). t.name) ts ≡ each (λ (t : Table). t.name) us → each (λ (t : Table). t.key) ts ≡ each (λ (t : Table). t.key) us → ts ≡ us
tables_same [] [] names keys = refl
tables_same [] (u ∷ us) names keys = cc
tables_same (t ∷ ts) [] names keys = cc
tables_same (t ∷ ts) (u ∷ us) names keys =
    let name : t.name ≡ u.name = heads _ _ _ _ names in
    let key : t.key ≡ u.key = heads _ _ _ _ keys in
    let rest : ts ≡ us = tables_same ts us (tails _ _ _ _ names) (tails _ _ _ _ keys) in
    λ i. record { name = name i; key = key i } ∷ rest i

-- the encoding of what is held
pub encoding_is : {Y : Type 0} (es : List (String Y × List (List ℕ × ColumnType))) (ms : List (ℕ × ElementDef)) (next : ℕ) → T (is_sorted nat_cmp ms)
    → parts_bytes (each string_bytes (keys_of es)) (values_of es) (values_of ms) next ≡ encoding (record { tables = each (table_held {Y = Y}) es; elements = map.from_sorted ms; next = next })
encoding_is es ms next rising =
    λ i. parts_bytes (sym (names_of_held es) i) (sym (keys_of_held es) i) (ap values_of (sym (map.entries-from_sorted nat_cmp ms rising)) i) next

-- and so are each table's elements
pub grouped_is : {Y : Type 0} (es : List (String Y × List (List ℕ × ColumnType))) (ms : List (ℕ × ElementDef)) → T (is_sorted nat_cmp ms)
    → grouped 1 (values_of ms) (values_of es) ≡ grouped 1 (values_of (map.entries (map.from_sorted {R = nat_cmp} ms))) (each (table_held {Y = Y}) es)
grouped_is {Y} es ms rising =
    grouped_each (λ (e : String Y × List (List ℕ × ColumnType)). e.1) 1 (values_of ms) es
    ∙ sym (grouped_each (table_held {Y = Y}) 1 (values_of ms) es)
    ∙ ap (λ (own : List ElementDef). grouped 1 own (each (table_held {Y = Y}) es)) (ap values_of (sym (map.entries-from_sorted nat_cmp ms rising)))

all_of : {X : Type 0} (P : X → Type 0) (xs : List X) → ((x : X) → Contains xs x → P x) → AllByRecursion P xs
all_of P [] f = tt
all_of P (x ∷ xs) f = (f x (here x xs), all_of P xs (λ y there. f y (later x y xs there)))

all_fair : (v : Version) → IsSoundVersion v → AllByRecursion HasFairKind (live v)
all_fair v sound = all_of HasFairKind (live v) (λ e there. let at = live_from v e there in (sound.elements at.0 e at.1).fair)

pub same_encoding_same : (a b : Version) → IsSoundVersion a → IsSoundVersion b → encoding a ≡ encoding b → a ≡ b
same_encoding_same a b left right e =
    let p = parts_tell _ _ _ _ _ _ _ _ (all_fair a left) (all_fair b right) e in
    let tables = tables_same a.tables b.tables p.names p.keys in
    let elements = same_map a b left right p.elements in
    λ i. record { tables = tables i; elements = elements i; next = p.next i }
