-- Codes tell: values whose codes begin the same bytes are the same, and so is what follows.
use Rattle.std.proofs.Common.{◌≡◌, ℕ, List, [], ◌∷◌, ◌++◌, length, refl, sym, ap, ◌∙◌, append_assoc, arith}
use Rattle.std.specs.List.{AllByRecursion, flat_map}
use Rattle.keycode.specs.declared.value.Value.{Value}
use Rattle.keycode.specs.Code.{code as value_code}
use Rattle.keycode.specs.Valid.{IsValue}
use Rattle.keycode.proofs.ByteOrder.{same_encoding}
use Rattle.row_map.specs.declared.shape.ColumnType.{ColumnType}
use Rattle.row_write.specs.declared.op.RowOp.{RowOp}
use Rattle.row_write.specs.declared.op.RowOp.TheVariants.{Insert, Update, Delete}
use Rattle.schema_version.specs.declared.element.ElementState.{ElementState}
use Rattle.schema_version.specs.declared.element.Kind.{Kind}
use Rattle.schema_version.specs.declared.element.Kind.TheVariants.{Index, Optional, Required}
use Rattle.schema_version.specs.declared.element.NewElement.{NewElement}
use Rattle.schema_version.specs.declared.step.Move.{Move}
use Rattle.schema_version.specs.declared.step.Move.TheVariants.{Enter, Go, Turn}
use Rattle.lease.specs.declared.lease.Lease.{Lease}
use Rattle.replay.specs.declared.entry.Entry.{Entry}
use Rattle.replay.specs.declared.entry.What.{What}
use Rattle.replay.specs.declared.entry.What.TheVariants as what
use Rattle.entry_code.specs.Code.{u32_code, u64_code, pair_code, list_code, versioned, op_code, op_list_code, kind_code, fresh_code, move_code, move_list_code, lease_code, what_code, body_code, entry_code, ops_code, step_code, opening_code}
use Rattle.entry_code.specs.Known.{IsU32, IsPair, IsList, IsOp, AreOps, IsKind, IsFresh, IsMove, AreMoves, IsOpening, IsLease, IsWhat, IsEntry}
use Rattle.entry_code.specs.inner.At.{At}
use Rattle.entry_code.proofs.Readers.{IsReader, ok_is, u32_reader, u64_reader, bytes_reader, text_reader, list_reader}
use Rattle.entry_code.proofs.Types.{type_reader, state_reader, lease_reader, opening_reader}

pub record IsCode {X : Type 0} (P : X → Type 0) (code : X → List ℕ) : Type 0 where
  pub tells : (x y : X) (r s : List ℕ) → P x → P y → code x ++ r ≡ code y ++ s → (x ≡ y) × (r ≡ s)

-- what is read in one way has one code
pub read_code : {X : Type 0} {P : X → Type 0} {code : X → List ℕ} {at : At X} → IsReader P code at → IsCode P code
read_code {X} {P} {code} {at} reader = record { tells = tells }
  where
    tells : (x y : X) (r s : List ℕ) → P x → P y → code x ++ r ≡ code y ++ s → (x ≡ y) × (r ≡ s)
    tells x y r s p q e =
        let same = ok_is (x, r) (y, s) (sym (reader.again x r p) ∙ ap at e ∙ reader.again y s q) in
        (ap (λ (z : X × List ℕ). z.0) same, ap (λ (z : X × List ℕ). z.1) same)

pub number_code : IsCode IsU32 u32_code
number_code = read_code u32_reader

-- ---- pairs, parts and lists

pub pair_is : {A B : Type 0} {P : A → Type 0} {Q : B → Type 0} {f : A → List ℕ} {g : B → List ℕ} → IsCode P f → IsCode Q g → IsCode (IsPair P Q) (pair_code f g)
pair_is {A} {B} {P} {Q} {f} {g} one two = record { tells = tells }
  where
    tells : (x y : A × B) (r s : List ℕ) → IsPair P Q x → IsPair P Q y → pair_code f g x ++ r ≡ pair_code f g y ++ s → (x ≡ y) × (r ≡ s)
    tells x y r s p q e =
        let a = one.tells x.0 y.0 (g x.1 ++ r) (g y.1 ++ s) p.0 q.0 (sym (append_assoc (f x.0) (g x.1) r) ∙ e ∙ append_assoc (f y.0) (g y.1) s) in
        let b = two.tells x.1 y.1 r s p.1 q.1 a.1 in
        ((λ i. (a.0 i, b.0 i)), b.1)

pub parts_is : {A B : Type 0} {P : A → Type 0} {f : A → List ℕ} (make : A → B) (parts : B → A) → ((b : B) → make (parts b) ≡ b) → IsCode P f → IsCode (λ b. P (parts b)) (λ b. f (parts b))
parts_is {A} {B} {P} {f} make parts whole code = record { tells = tells }
  where
    tells : (x y : B) (r s : List ℕ) → P (parts x) → P (parts y) → f (parts x) ++ r ≡ f (parts y) ++ s → (x ≡ y) × (r ≡ s)
    tells x y r s p q e =
        let a = code.tells (parts x) (parts y) r s p q e in
        (sym (whole x) ∙ ap make a.0 ∙ whole y, a.1)

pub list_is : {X : Type 0} {P : X → Type 0} {code : X → List ℕ} → IsCode P code → IsCode (IsList P) (list_code code)
unfolding list_code
list_is {X} {P} {code} one = record { tells = tells }
  where
    items : (xs ys : List X) (r s : List ℕ) → length xs ≡ length ys → AllByRecursion P xs → AllByRecursion P ys → flat_map code xs ++ r ≡ flat_map code ys ++ s → (xs ≡ ys) × (r ≡ s)
    items [] [] r s len p q e = (refl, e)
    items [] (y ∷ ys) r s len p q e = absurd (omega arith)
    items (x ∷ xs) [] r s len p q e = absurd (omega arith)
    items (x ∷ xs) (y ∷ ys) r s len p q e =
        let a = one.tells x y (flat_map code xs ++ r) (flat_map code ys ++ s) p.0 q.0 (sym (append_assoc (code x) (flat_map code xs) r) ∙ e ∙ append_assoc (code y) (flat_map code ys) s) in
        let b = items xs ys r s (omega arith) p.1 q.1 a.1 in
        ((λ i. a.0 i ∷ b.0 i), b.1)

    tells : (xs ys : List X) (r s : List ℕ) → IsList P xs → IsList P ys → list_code code xs ++ r ≡ list_code code ys ++ s → (xs ≡ ys) × (r ≡ s)
    tells xs ys r s p q e =
        let len = (read_code u64_reader).tells (length xs) (length ys) (flat_map code xs ++ r) (flat_map code ys ++ s) p.0 q.0
        (sym (append_assoc (u64_code (length xs)) (flat_map code xs) r) ∙ e ∙ append_assoc (u64_code (length ys)) (flat_map code ys) s) in
        items xs ys r s len.0 p.1 q.1 len.1

-- ---- variants

pub head : {x y : ℕ} {xs ys : List ℕ} → x ∷ xs ≡ y ∷ ys → x ≡ y
head e = cc

tail : {x y : ℕ} {xs ys : List ℕ} → x ∷ xs ≡ y ∷ ys → xs ≡ ys
tail e = cc

-- two of one variant
pub both : {A X : Type 0} {P : A → Type 0} {f : A → List ℕ} (make : A → X) → IsCode P f → (tag : ℕ) (a b : A) (r s : List ℕ) → P a → P b → tag ∷ (f a ++ r) ≡ tag ∷ (f b ++ s) → (make a ≡ make b) × (r ≡ s)
both make code tag a b r s p q e = let h = code.tells a b r s p q (tail e) in (ap make h.0, h.1)

pub value_is : IsCode IsValue value_code
value_is = record { tells = λ v w x y p q e. same_encoding v w x y p q e }

row_is : IsCode (IsPair IsU32 (IsPair (IsList IsValue) (IsList (IsPair IsU32 IsValue)))) (pair_code u32_code (pair_code (list_code value_code) (list_code (pair_code u32_code value_code))))
row_is = pair_is number_code (pair_is (list_is value_is) (list_is (pair_is number_code value_is)))

abbrev RowParts : Type 0
RowParts = ℕ × (List Value × List (ℕ × Value))

op_tells : (x y : RowOp) (r s : List ℕ) → IsOp IsValue x → IsOp IsValue y → op_code x ++ r ≡ op_code y ++ s → (x ≡ y) × (r ≡ s)
op_tells (Insert t k c) (Insert u l d) r s p q e = both (λ (r : RowParts). Insert r.0 r.1.0 r.1.1) row_is 0 (t, (k, c)) (u, (l, d)) r s p q e
op_tells (Insert t k c) (Update u l d) r s p q e = absurd (omega (arith, head e))
op_tells (Insert t k c) (Delete u l) r s p q e = absurd (omega (arith, head e))
op_tells (Update t k c) (Insert u l d) r s p q e = absurd (omega (arith, head e))
op_tells (Update t k c) (Update u l d) r s p q e = both (λ (r : RowParts). Update r.0 r.1.0 r.1.1) row_is 1 (t, (k, c)) (u, (l, d)) r s p q e
op_tells (Update t k c) (Delete u l) r s p q e = absurd (omega (arith, head e))
op_tells (Delete t k) (Insert u l d) r s p q e = absurd (omega (arith, head e))
op_tells (Delete t k) (Update u l d) r s p q e = absurd (omega (arith, head e))
op_tells (Delete t k) (Delete u l) r s p q e = both (λ (r : ℕ × List Value). Delete r.0 r.1) (pair_is number_code (list_is value_is)) 2 (t, k) (u, l) r s p q e

ops_are : IsCode (AreOps IsValue) op_list_code
ops_are = list_is (record { tells = op_tells })

pub kind_tells : (x y : Kind) (r s : List ℕ) → IsKind IsValue x → IsKind IsValue y → kind_code x ++ r ≡ kind_code y ++ s → (x ≡ y) × (r ≡ s)
kind_tells (Index a) (Index b) r s p q e = both Index (read_code (list_reader u32_reader)) 0 a b r s p q e
kind_tells (Index a) (Optional b) r s p q e = absurd (omega (arith, head e))
kind_tells (Index a) (Required b g) r s p q e = absurd (omega (arith, head e))
kind_tells (Optional a) (Index b) r s p q e = absurd (omega (arith, head e))
kind_tells (Optional a) (Optional b) r s p q e = both Optional (read_code type_reader) 1 a b r s p q e
kind_tells (Optional a) (Required b g) r s p q e = absurd (omega (arith, head e))
kind_tells (Required a f) (Index b) r s p q e = absurd (omega (arith, head e))
kind_tells (Required a f) (Optional b) r s p q e = absurd (omega (arith, head e))
kind_tells (Required a f) (Required b g) r s p q e = both (λ (r : ColumnType × Value). Required r.0 r.1) (pair_is (read_code type_reader) value_is) 2 (a, f) (b, g) r s p q e

fresh_is : IsCode (IsFresh IsValue) fresh_code
fresh_is =
    parts_is (λ r. record { table = r.0; name = r.1.0; kind = r.1.1 }) (λ (f : NewElement). (f.table, (f.name, f.kind))) (λ _. refl)
    (pair_is number_code (pair_is (read_code text_reader) (record { tells = kind_tells })))

move_tells : (x y : Move) (r s : List ℕ) → IsMove IsValue x → IsMove IsValue y → move_code x ++ r ≡ move_code y ++ s → (x ≡ y) × (r ≡ s)
move_tells (Enter f to) (Enter g too) r s p q e = both (λ (r : NewElement × ElementState). Enter r.0 r.1) (pair_is fresh_is (read_code state_reader)) 0 (f, to) (g, too) r s p q e
move_tells (Enter f to) (Go b too) r s p q e = absurd (omega (arith, head e))
move_tells (Enter f to) (Turn b) r s p q e = absurd (omega (arith, head e))
move_tells (Go a to) (Enter g too) r s p q e = absurd (omega (arith, head e))
move_tells (Go a to) (Go b too) r s p q e = both (λ (r : ℕ × ElementState). Go r.0 r.1) (pair_is number_code (read_code state_reader)) 1 (a, to) (b, too) r s p q e
move_tells (Go a to) (Turn b) r s p q e = absurd (omega (arith, head e))
move_tells (Turn a) (Enter g too) r s p q e = absurd (omega (arith, head e))
move_tells (Turn a) (Go b too) r s p q e = absurd (omega (arith, head e))
move_tells (Turn a) (Turn b) r s p q e = both Turn number_code 2 a b r s p q e

pub moves_are : IsCode (AreMoves IsValue) move_list_code
moves_are = list_is (record { tells = move_tells })

lease_is : IsCode IsLease lease_code
lease_is = read_code lease_reader

abbrev PieceParts : Type 0
PieceParts = ℕ × (ℕ × List ℕ)

what_tells : (x y : What) (r s : List ℕ) → IsWhat IsValue x → IsWhat IsValue y → what_code x ++ r ≡ what_code y ++ s → (x ≡ y) × (r ≡ s)
what_tells (what.Lease a) (what.Lease b) r s p q e = both what.Lease lease_is 0 a b r s p q e
what_tells (what.Lease a) (what.Txn b l) r s p q e = absurd (omega (arith, head e))
what_tells (what.Lease a) (what.Publish b) r s p q e = absurd (omega (arith, head e))
what_tells (what.Lease a) (what.Begin b n) r s p q e = absurd (omega (arith, head e))
what_tells (what.Lease a) (what.Piece b n d) r s p q e = absurd (omega (arith, head e))
what_tells (what.Txn a k) (what.Lease b) r s p q e = absurd (omega (arith, head e))
what_tells (what.Txn a k) (what.Txn b l) r s p q e = both (λ (r : Lease × List RowOp). what.Txn r.0 r.1) (pair_is lease_is ops_are) 1 (a, k) (b, l) r s p q e
what_tells (what.Txn a k) (what.Publish b) r s p q e = absurd (omega (arith, head e))
what_tells (what.Txn a k) (what.Begin b n) r s p q e = absurd (omega (arith, head e))
what_tells (what.Txn a k) (what.Piece b n d) r s p q e = absurd (omega (arith, head e))
what_tells (what.Publish a) (what.Lease b) r s p q e = absurd (omega (arith, head e))
what_tells (what.Publish a) (what.Txn b l) r s p q e = absurd (omega (arith, head e))
what_tells (what.Publish a) (what.Publish b) r s p q e = both what.Publish moves_are 2 a b r s p q e
what_tells (what.Publish a) (what.Begin b n) r s p q e = absurd (omega (arith, head e))
what_tells (what.Publish a) (what.Piece b n d) r s p q e = absurd (omega (arith, head e))
what_tells (what.Begin a m) (what.Lease b) r s p q e = absurd (omega (arith, head e))
what_tells (what.Begin a m) (what.Txn b l) r s p q e = absurd (omega (arith, head e))
what_tells (what.Begin a m) (what.Publish b) r s p q e = absurd (omega (arith, head e))
what_tells (what.Begin a m) (what.Begin b n) r s p q e = both (λ (r : ℕ × ℕ). what.Begin r.0 r.1) (pair_is number_code number_code) 3 (a, m) (b, n) r s p q e
what_tells (what.Begin a m) (what.Piece b n d) r s p q e = absurd (omega (arith, head e))
what_tells (what.Piece a m c) (what.Lease b) r s p q e = absurd (omega (arith, head e))
what_tells (what.Piece a m c) (what.Txn b l) r s p q e = absurd (omega (arith, head e))
what_tells (what.Piece a m c) (what.Publish b) r s p q e = absurd (omega (arith, head e))
what_tells (what.Piece a m c) (what.Begin b n) r s p q e = absurd (omega (arith, head e))
what_tells (what.Piece a m c) (what.Piece b n d) r s p q e = both (λ (r : PieceParts). what.Piece r.0 r.1.0 r.1.1) (pair_is number_code (pair_is number_code (read_code bytes_reader))) 4 (a, (m, c)) (b, (n, d)) r s p q e

body_is : IsCode (IsEntry IsValue) body_code
body_is = parts_is (λ r. record { moment = r.0; what = r.1 }) (λ (e : Entry). (e.moment, e.what)) (λ _. refl) (pair_is (read_code u64_reader) (record { tells = what_tells }))

-- ---- with the version before them

pub versioned_is : {X : Type 0} {P : X → Type 0} {code : X → List ℕ} → IsCode P code → (x y : X) (r s : List ℕ) → P x → P y → versioned code x ++ r ≡ versioned code y ++ s → (x ≡ y) × (r ≡ s)
versioned_is code x y r s p q e = code.tells x y r s p q (tail e)

pub entry_tells : (a b : Entry) (r s : List ℕ) → IsEntry IsValue a → IsEntry IsValue b → entry_code a ++ r ≡ entry_code b ++ s → (a ≡ b) × (r ≡ s)
entry_tells = versioned_is body_is

pub ops_tell : (a b : List RowOp) (r s : List ℕ) → AreOps IsValue a → AreOps IsValue b → ops_code a ++ r ≡ ops_code b ++ s → (a ≡ b) × (r ≡ s)
ops_tell = versioned_is ops_are

pub step_tells : (a b : List Move) (r s : List ℕ) → AreMoves IsValue a → AreMoves IsValue b → step_code a ++ r ≡ step_code b ++ s → (a ≡ b) × (r ≡ s)
step_tells = versioned_is moves_are

pub opening_tells : (a b : ℕ × List _) (r s : List ℕ) → IsOpening a → IsOpening b → opening_code a ++ r ≡ opening_code b ++ s → (a ≡ b) × (r ≡ s)
opening_tells = versioned_is (read_code opening_reader)
