-- Encodings tell: items whose bytes begin the same bytes are the same, and so is what follows.
use Rattle.std.specs.Prelude.{⊤}
use Rattle.std.proofs.Common.{◌≡◌, ℕ, zero, suc, ◌/◌, ◌%◌, List, [], ◌∷◌, ◌++◌, refl, sym, ap, ◌∙◌, append_assoc, arith}
use Rattle.std.proofs.lemmas.List.{append-nil}
use Rattle.std.proofs.lemmas.Nat.{div-add-mod'}
use Rattle.std.specs.List.{AllByRecursion, flat_map}
use Rattle.keycode.proofs.ByteOrder.{same_encoding}
use Rattle.row_map.specs.declared.shape.ColumnType.{ColumnType}
use Rattle.row_map.specs.declared.shape.ColumnType.TheVariants.{Int, Text, Bool}
use Rattle.schema_version.specs.declared.element.ElementState.{ElementState}
use Rattle.schema_version.specs.declared.element.ElementState.TheVariants.{Absent, DeleteOnly, WriteOnly, Public}
use Rattle.schema_version.specs.declared.element.Way.{Way}
use Rattle.schema_version.specs.declared.element.Way.TheVariants.{Adding, Dropping}
use Rattle.schema_version.specs.declared.element.Kind.TheVariants.{Index, Optional, Required}
use Rattle.schema_version.specs.declared.element.ElementDef.{ElementDef}
use Rattle.schema_version.specs.Moves.{IsFairKind}
use Rattle.schema_version.specs.inner.Encoding.{word, byte, after_one, items_bytes, name_bytes, type_byte, column_bytes, key_bytes, kind_bytes, state_byte, way_byte, element_bytes, parts_bytes}

head : {x y : ℕ} {xs ys : List ℕ} → x ∷ xs ≡ y ∷ ys → x ≡ y
head e = cc

tail : {x y : ℕ} {xs ys : List ℕ} → x ∷ xs ≡ y ∷ ys → xs ≡ ys
tail e = cc

abbrev Tells : {X : Type 0} → (X → Type 0) → (X → List ℕ) → Type 0
Tells {X} P bytes = (x y : X) (r s : List ℕ) → P x → P y → bytes x ++ r ≡ bytes y ++ s → (x ≡ y) × (r ≡ s)

module _ {X : Type 0} (P : X → Type 0) (bytes : X → List ℕ) (tells : Tells P bytes) where
  begins : (x : X) (xs : List X) (r : List ℕ) → items_bytes bytes (x ∷ xs) ++ r ≡ 1 ∷ (bytes x ++ (items_bytes bytes xs ++ r))
  begins x xs r =
      ap (λ l. 1 ∷ (l ++ r)) (append_assoc (bytes x) (flat_map (after_one bytes) xs) (0 ∷ []))
      ∙ ap (λ l. 1 ∷ l) (append_assoc (bytes x) (items_bytes bytes xs) r)

  listed_tells : Tells (AllByRecursion P) (items_bytes bytes)
  listed_tells [] [] r s p q e = (refl, tail e)
  listed_tells [] (y ∷ ys) r s p q e = absurd (omega (arith, head (e ∙ begins y ys s)))
  listed_tells (x ∷ xs) [] r s p q e = absurd (omega (arith, head (sym (begins x xs r) ∙ e)))
  listed_tells (x ∷ xs) (y ∷ ys) r s p q e =
      let first = tells x y _ _ p.0 q.0 (tail (sym (begins x xs r) ∙ e ∙ begins y ys s)) in
      let rest = listed_tells xs ys r s p.1 q.1 first.1 in
      ((λ i. first.0 i ∷ rest.0 i), rest.1)

abbrev Always : {X : Type 0} → (X → List ℕ) → Type 0
Always {X} bytes = (x y : X) (r s : List ℕ) → bytes x ++ r ≡ bytes y ++ s → (x ≡ y) × (r ≡ s)

every : {X : Type 0} (xs : List X) → AllByRecursion (λ (x : X). ⊤) xs
every [] = tt
every (x ∷ xs) = (tt, every xs)

listed_always : {X : Type 0} (bytes : X → List ℕ) → Always bytes → Always (items_bytes bytes)
listed_always {X} bytes tells xs ys r s e = listed_tells (λ (x : X). ⊤) bytes (λ x y r s p q e. tells x y r s e) xs ys r s (every xs) (every ys) e

byte_tells : Always byte
byte_tells x y r s e = (head e, tail e)

name_tells : Always name_bytes
name_tells = listed_always byte byte_tells

digits : (a b : ℕ) → a / 256 ≡ b / 256 → a % 256 ≡ b % 256 → a ≡ b
digits a b high low = omega (arith, high, low, div-add-mod' a 256, div-add-mod' b 256)

word_tells : Always word
word_tells x y r s e =
    let second = digits (x / 256 / 256) (y / 256 / 256) (head e) (head (tail e)) in
    let third = digits (x / 256) (y / 256) second (head (tail (tail e))) in
    (digits x y third (head (tail (tail (tail e)))), tail (tail (tail (tail e))))

type_tells : (a b : ColumnType) → type_byte a ≡ type_byte b → a ≡ b
type_tells a b e = sym (back a) ∙ ap type_of e ∙ back b
  where
    type_of : ℕ → ColumnType
    type_of zero = Int
    type_of (suc zero) = Text
    type_of (suc (suc n)) = Bool

    back : (a : ColumnType) → type_of (type_byte a) ≡ a
    back Int = refl
    back Text = refl
    back Bool = refl

state_tells : (a b : ElementState) → state_byte a ≡ state_byte b → a ≡ b
state_tells a b e = sym (back a) ∙ ap state_of e ∙ back b
  where
    state_of : ℕ → ElementState
    state_of zero = Absent
    state_of (suc zero) = DeleteOnly
    state_of (suc (suc zero)) = WriteOnly
    state_of (suc (suc (suc n))) = Public

    back : (a : ElementState) → state_of (state_byte a) ≡ a
    back Absent = refl
    back DeleteOnly = refl
    back WriteOnly = refl
    back Public = refl

way_tells : (a b : Way) → way_byte a ≡ way_byte b → a ≡ b
way_tells a b e = sym (back a) ∙ ap way_of e ∙ back b
  where
    way_of : ℕ → Way
    way_of zero = Adding
    way_of (suc n) = Dropping

    back : (a : Way) → way_of (way_byte a) ≡ a
    back Adding = refl
    back Dropping = refl

column_tells : Always column_bytes
column_tells x y r s e =
    let name = name_tells x.0 y.0 _ _ (sym (append_assoc (name_bytes x.0) (byte (type_byte x.1)) r) ∙ e ∙ append_assoc (name_bytes y.0) (byte (type_byte y.1)) s) in
    let type = type_tells x.1 y.1 (head name.1) in
    ((λ i. (name.0 i, type i)), tail name.1)

key_tells : Always key_bytes
key_tells = listed_always column_bytes column_tells

kind_tells : Tells IsFairKind kind_bytes
kind_tells (Index a) (Index b) r s p q e = let h = listed_always word word_tells a b r s (tail e) in (ap Index h.0, h.1)
kind_tells (Index a) (Optional b) r s p q e = absurd (omega (arith, head e))
kind_tells (Index a) (Required b g) r s p q e = absurd (omega (arith, head e))
kind_tells (Optional a) (Index b) r s p q e = absurd (omega (arith, head e))
kind_tells (Optional a) (Optional b) r s p q e = (ap Optional (type_tells a b (head (tail e))), tail (tail e))
kind_tells (Optional a) (Required b g) r s p q e = absurd (omega (arith, head e))
kind_tells (Required a f) (Index b) r s p q e = absurd (omega (arith, head e))
kind_tells (Required a f) (Optional b) r s p q e = absurd (omega (arith, head e))
kind_tells (Required a f) (Required b g) r s p q e =
    let type = type_tells a b (head (tail e)) in
    let h = same_encoding f g r s p.1 q.1 (tail (tail e)) in
    ((λ i. Required (type i) (h.0 i)), h.1)

abbrev pub HasFairKind : ElementDef → Type 0
HasFairKind element = IsFairKind element.kind

element_parts : (e : ElementDef) (r : List ℕ) → element_bytes e ++ r ≡ word e.number ++ (word e.table ++ (name_bytes e.name ++ (kind_bytes e.kind ++ (state_byte e.state ∷ way_byte e.way ∷ r))))
element_parts e r = regroup (word e.number) (word e.table) (name_bytes e.name) (kind_bytes e.kind) (state_byte e.state ∷ way_byte e.way ∷ []) r
  where
    regroup : (a b c d f r : List ℕ) → ((((a ++ b) ++ c) ++ d) ++ f) ++ r ≡ a ++ (b ++ (c ++ (d ++ (f ++ r))))
    regroup a b c d f r = simp append_assoc

element_tells : Tells HasFairKind element_bytes
element_tells x y r s p q e =
    let number = word_tells x.number y.number _ _ (sym (element_parts x r) ∙ e ∙ element_parts y s) in
    let table = word_tells x.table y.table _ _ number.1 in
    let name = name_tells x.name y.name _ _ table.1 in
    let kind = kind_tells x.kind y.kind _ _ p q name.1 in
    let state = state_tells x.state y.state (head kind.1) in
    let way = way_tells x.way y.way (head (tail kind.1)) in
    ((λ i. record { number = number.0 i; table = table.0 i; name = name.0 i; kind = kind.0 i; state = state i; way = way i }), tail (tail kind.1))

pub record AreSameParts (a b : List (List ℕ)) (j k : List (List (List ℕ × ColumnType))) (x y : List ElementDef) (m n : ℕ) : Type 0 where
  pub names : a ≡ b
  pub keys : j ≡ k
  pub elements : x ≡ y
  pub next : m ≡ n

parts_are : (a : List (List ℕ)) (j : List (List (List ℕ × ColumnType))) (x : List ElementDef) (m : ℕ) → parts_bytes a j x m ≡ word m ++ (items_bytes name_bytes a ++ (items_bytes key_bytes j ++ (items_bytes element_bytes x ++ [])))
parts_are a j x m = sym (append-nil (parts_bytes a j x m)) ∙ regroup (word m) (items_bytes name_bytes a) (items_bytes key_bytes j) (items_bytes element_bytes x) []
  where
    regroup : (a b c d r : List ℕ) → (((a ++ b) ++ c) ++ d) ++ r ≡ a ++ (b ++ (c ++ (d ++ r)))
    regroup a b c d r = simp append_assoc

pub parts_tell : (a b : List (List ℕ)) (j k : List (List (List ℕ × ColumnType))) (x y : List ElementDef) (m n : ℕ) → AllByRecursion HasFairKind x → AllByRecursion HasFairKind y
    → parts_bytes a j x m ≡ parts_bytes b k y n → AreSameParts a b j k x y m n
parts_tell a b j k x y m n p q e =
    let next = word_tells m n _ _ (sym (parts_are a j x m) ∙ e ∙ parts_are b k y n) in
    let names = listed_always name_bytes name_tells a b _ _ next.1 in
    let keys = listed_always key_bytes key_tells j k _ _ names.1 in
    let elements = listed_tells HasFairKind element_bytes element_tells x y [] [] p q keys.1 in
    record { names = names.0; keys = keys.0; elements = elements.0; next = next.0 }
