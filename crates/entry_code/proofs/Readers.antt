-- A reader gives back what was written, and what it gives was written so.
use Rattle.std.proofs.Common.{◌≡◌, ℕ, zero, suc, ◌^◌, ◌<◌, ◌≤◌, Bool, true, false, cond, eqb, ltb, List, [], ◌∷◌, ◌++◌, length, take, drop, Result, Ok, Err, refl, sym, ap, subst, ◌∙◌, append_assoc, arith, ◌⊎◌, inl, inr}
use Rattle.std.specs.Int.{w32, w64, from_be_bytes, to_be_bytes}
use Rattle.std.specs.List.{AllByRecursion, flat_map}
use Rattle.std.specs.Str.{is_utf8}
use Rattle.std.proofs.lemmas.Bool.{ltb-false, le-ltb, eqb-true}
use Rattle.std.proofs.lemmas.List.{take_at, drop_at, take-append-drop, length-append, length-take, append-nil}
use Rattle.std.proofs.lemmas.Nat.{be_bytes_4, be_bytes_8, from_be_bytes-to_be_bytes_4, from_be_bytes-to_be_bytes_8}
use Rattle.std.proofs.lemmas.Str.{IsUtf8-from_is_utf8, is_utf8-from_IsUtf8}
use Rattle.collections.specs.Answers.{◌>>>=◌}
use Rattle.keycode.specs.declared.fault.KeyFault.{KeyFault}
use Rattle.keycode.specs.declared.value.Value.{Value}
use Rattle.keycode.specs.Code.{code as value_code}
use Rattle.keycode.specs.Valid.{IsStorable}
use Rattle.keycode.specs.Read.{value_at as key_value_at}
use Rattle.keycode.proofs.Fields.{IsBytes, IsBytes-drop, IsBytes-take, value_takes, value_again}
use Rattle.entry_code.specs.declared.fault.CodeFault.{CodeFault}
use Rattle.entry_code.specs.declared.fault.CodeFault.TheVariants.{Malformed}
use Rattle.entry_code.specs.Code.{u32_code, u64_code, bytes_code, pair_code, list_code}
use Rattle.entry_code.specs.Known.{IsU32, IsU64, IsByteString, IsText, IsPair, IsList}
use Rattle.entry_code.specs.inner.At.{At, u64_at, u32_at, prefix_at, bytes_at, text_at, from_key, value_at, pair_at, map_at, items_at, list_at}

-- what was read from the prefix
pub record Takes {X : Type 0} (P : X → Type 0) (code : X → List ℕ) (bytes : List ℕ) (x : X × List ℕ) : Type 0 where
  pub parts : bytes ≡ code x.0 ++ x.1
  pub known : P x.0

pub record IsReader {X : Type 0} (P : X → Type 0) (code : X → List ℕ) (at : At X) : Type 0 where
  pub takes : (bytes : List ℕ) (x : X × List ℕ) → IsBytes bytes → at bytes ≡ Ok x → Takes P code bytes x
  pub again : (x : X) (rest : List ℕ) → P x → at (code x ++ rest) ≡ Ok (x, rest)

-- ---- steps

abbrev pub done : {A : Type 0} → A → Result A CodeFault
done x = Ok x

pub ok_is : {A : Type 0} (x y : A) → done x ≡ done y → x ≡ y
ok_is x y e = cc

-- the value of a step that did not fail
pub bind_ok : {A B : Type 0} (r : Result A CodeFault) (f : A → Result B CodeFault) (y : B) → (r >>>= f) ≡ Ok y → (x : A) × (r ≡ Ok x) × (f x ≡ Ok y)
bind_ok (Ok x) f y e = (x, refl, e)
bind_ok (Err d) f y e = absurd cc

-- a test that did not fail
guard_ok : {A : Type 0} (b : Bool) (d : CodeFault) (x y : A) → cond b (Err d) (Ok x) ≡ Ok y → (b ≡ false) × (x ≡ y)
guard_ok true d x y e = absurd cc
guard_ok false d x y e = (refl, cc)

wanted_ok : {A : Type 0} (b : Bool) (d : CodeFault) (x y : A) → cond b (Ok x) (Err d) ≡ Ok y → (b ≡ true) × (x ≡ y)
wanted_ok true d x y e = (refl, cc)
wanted_ok false d x y e = absurd cc

-- which way a test went
pub chosen : {A : Type 0} (b : Bool) (x y z : A) → cond b x y ≡ z → ((b ≡ true) × (x ≡ z)) ⊎ ((b ≡ false) × (y ≡ z))
chosen true x y z e = inl (refl, e)
chosen false x y z e = inr (refl, e)

pub rest_bytes : (front rest bytes : List ℕ) → bytes ≡ front ++ rest → IsBytes bytes → IsBytes rest
rest_bytes front rest bytes parts fits =
    subst IsBytes (ap (drop (length front)) parts ∙ drop_at front rest (length front) refl) (IsBytes-drop (length front) bytes fits)

-- ---- numbers

u64_takes : (bytes : List ℕ) (x : ℕ × List ℕ) → IsBytes bytes → u64_at bytes ≡ Ok x → Takes IsU64 u64_code bytes x
unfolding u64_at u64_code
u64_takes bytes x fits e =
    let number = from_be_bytes w64 (take 8 bytes) in
    let g = guard_ok (ltb (length bytes) 8) Malformed (number, drop 8 bytes) x e in
    let long : 8 ≤ length bytes = ltb-false _ _ g.0 in
    let prefix_fits : IsBytes (take 8 bytes) = IsBytes-take 8 bytes fits in
    let below : number < 2 ^ 64 = omega (arith, prefix_fits 0, prefix_fits 1, prefix_fits 2, prefix_fits 3, prefix_fits 4, prefix_fits 5, prefix_fits 6, prefix_fits 7) in
    let prefix : to_be_bytes w64 number ≡ take 8 bytes = be_bytes_8 (take 8 bytes) _ (omega (arith, length-take 8 bytes)) prefix_fits refl in
    subst (Takes IsU64 u64_code bytes) g.1 (record { parts = sym (take-append-drop 8 bytes) ∙ ap (λ (l : List ℕ). l ++ drop 8 bytes) (sym prefix); known = below })

u64_read : (prefix rest : List ℕ) (n : ℕ) → length prefix ≡ 8 → from_be_bytes w64 prefix ≡ n → u64_at (prefix ++ rest) ≡ Ok (n, rest)
unfolding u64_at
u64_read prefix rest n len is =
    let long : ltb (length (prefix ++ rest)) 8 ≡ false = le-ltb _ _ (omega (arith, length-append prefix rest)) in
    rw (long, take_at prefix rest 8 len, drop_at prefix rest 8 len, is) refl

pub u64_reader : IsReader IsU64 u64_code u64_at
unfolding u64_code
u64_reader = record { takes = u64_takes; again = λ n rest fits. u64_read (to_be_bytes w64 n) rest n refl (from_be_bytes-to_be_bytes_8 n fits) }

u32_takes : (bytes : List ℕ) (x : ℕ × List ℕ) → IsBytes bytes → u32_at bytes ≡ Ok x → Takes IsU32 u32_code bytes x
unfolding u32_at u32_code
u32_takes bytes x fits e =
    let number = from_be_bytes w32 (take 4 bytes) in
    let g = guard_ok (ltb (length bytes) 4) Malformed (number, drop 4 bytes) x e in
    let long : 4 ≤ length bytes = ltb-false _ _ g.0 in
    let prefix_fits : IsBytes (take 4 bytes) = IsBytes-take 4 bytes fits in
    let below : number < 2 ^ 32 = omega (arith, prefix_fits 0, prefix_fits 1, prefix_fits 2, prefix_fits 3) in
    let prefix : to_be_bytes w32 number ≡ take 4 bytes = be_bytes_4 (take 4 bytes) _ (omega (arith, length-take 4 bytes)) prefix_fits refl in
    subst (Takes IsU32 u32_code bytes) g.1 (record { parts = sym (take-append-drop 4 bytes) ∙ ap (λ (l : List ℕ). l ++ drop 4 bytes) (sym prefix); known = below })

u32_read : (prefix rest : List ℕ) (n : ℕ) → length prefix ≡ 4 → from_be_bytes w32 prefix ≡ n → u32_at (prefix ++ rest) ≡ Ok (n, rest)
unfolding u32_at
u32_read prefix rest n len is =
    let long : ltb (length (prefix ++ rest)) 4 ≡ false = le-ltb _ _ (omega (arith, length-append prefix rest)) in
    rw (long, take_at prefix rest 4 len, drop_at prefix rest 4 len, is) refl

pub u32_reader : IsReader IsU32 u32_code u32_at
unfolding u32_code
u32_reader = record { takes = u32_takes; again = λ n rest fits. u32_read (to_be_bytes w32 n) rest n refl (from_be_bytes-to_be_bytes_4 n fits) }

-- ---- pairs, and what is made of them

pub pair_reader : {A B : Type 0} {P : A → Type 0} {Q : B → Type 0} {f : A → List ℕ} {g : B → List ℕ} {at : At A} {bt : At B}
    → IsReader P f at → IsReader Q g bt → IsReader (IsPair P Q) (pair_code f g) (pair_at at bt)
pair_reader {A} {B} {P} {Q} {f} {g} {at} {bt} one two = record { takes = takes; again = again }
  where
    takes : (bytes : List ℕ) (x : (A × B) × List ℕ) → IsBytes bytes → pair_at at bt bytes ≡ Ok x → Takes (IsPair P Q) (pair_code f g) bytes x
    takes bytes x fits e =
        let a = bind_ok (at bytes) (λ y. bt y.1 >>>= λ z. Ok ((y.0, z.0), z.1)) x e in
        let b = bind_ok (bt a.0.1) (λ z. Ok ((a.0.0, z.0), z.1)) x a.2 in
        let first = one.takes bytes a.0 fits a.1 in
        let second = two.takes a.0.1 b.0 (rest_bytes (f a.0.0) a.0.1 bytes first.parts fits) b.1 in
        subst (Takes (IsPair P Q) (pair_code f g) bytes) (ok_is ((a.0.0, b.0.0), b.0.1) x b.2) (record {
          parts = first.parts ∙ ap (λ (l : List ℕ). f a.0.0 ++ l) second.parts ∙ sym (append_assoc (f a.0.0) (g b.0.0) b.0.1);
          known = (first.known, second.known);
        })

    again : (x : A × B) (rest : List ℕ) → IsPair P Q x → pair_at at bt (pair_code f g x ++ rest) ≡ Ok (x, rest)
    again x rest known =
        ap (pair_at at bt) (append_assoc (f x.0) (g x.1) rest)
        ∙ ap (λ r. r >>>= λ y. bt y.1 >>>= λ z. Ok ((y.0, z.0), z.1)) (one.again x.0 (g x.1 ++ rest) known.0)
        ∙ ap (λ r. r >>>= λ z. Ok ((x.0, z.0), z.1)) (two.again x.1 rest known.1)

pub map_reader : {A B : Type 0} {P : A → Type 0} {f : A → List ℕ} {at : At A} (make : A → B) (parts : B → A) → ((b : B) → make (parts b) ≡ b) → ((a : A) → parts (make a) ≡ a)
    → IsReader P f at → IsReader (λ b. P (parts b)) (λ b. f (parts b)) (map_at make at)
map_reader {A} {B} {P} {f} {at} make parts whole apart reader = record { takes = takes; again = again }
  where
    takes : (bytes : List ℕ) (x : B × List ℕ) → IsBytes bytes → map_at make at bytes ≡ Ok x → Takes (λ b. P (parts b)) (λ b. f (parts b)) bytes x
    takes bytes x fits e =
        let a = bind_ok (at bytes) (λ y. Ok (make y.0, y.1)) x e in
        let t = reader.takes bytes a.0 fits a.1 in
        subst (Takes (λ b. P (parts b)) (λ b. f (parts b)) bytes) (ok_is (make a.0.0, a.0.1) x a.2) (record {
          parts = t.parts ∙ ap (λ (y : A). f y ++ a.0.1) (sym (apart a.0.0));
          known = subst P (sym (apart a.0.0)) t.known;
        })

    again : (x : B) (rest : List ℕ) → P (parts x) → map_at make at (f (parts x) ++ rest) ≡ Ok (x, rest)
    again x rest known =
        ap (λ r. r >>>= λ y. Ok (make y.0, y.1)) (reader.again (parts x) rest known) ∙ ap (λ b. Ok (b, rest)) (whole x)

-- ---- variants, each after the byte that tells it

pub nothing_reader : IsReader {X = Unit {0}} (λ _. Unit {0}) (λ _. []) (λ bytes. Ok (tt, bytes))
nothing_reader = record {
  takes = λ bytes x fits e. subst (Takes {X = Unit {0}} (λ _. Unit {0}) (λ _. []) bytes) (ok_is (tt, bytes) x e) (record { parts = refl; known = tt });
  again = λ x rest known. refl;
}

pub variant_takes : {A X : Type 0} {P : A → Type 0} {f : A → List ℕ} {at : At A} (Q : X → Type 0) (code : X → List ℕ) (tag : ℕ) (make : A → X)
    → ((a : A) → code (make a) ≡ tag ∷ f a) → ((a : A) → P a → Q (make a)) → IsReader P f at
    → (byte : ℕ) (bytes : List ℕ) (x : X × List ℕ) → IsBytes (byte ∷ bytes) → eqb byte tag ≡ true → map_at make at bytes ≡ Ok x → Takes Q code (byte ∷ bytes) x
variant_takes {A} {X} {P} {f} {at} Q code tag make spelled known reader byte bytes x fits is e =
    let a = bind_ok (at bytes) (λ y. Ok (make y.0, y.1)) x e in
    let t = reader.takes bytes a.0 (rest_bytes (byte ∷ []) bytes (byte ∷ bytes) refl fits) a.1 in
    subst (Takes Q code (byte ∷ bytes)) (ok_is (make a.0.0, a.0.1) x a.2) (record {
      parts = ap (λ (b : ℕ). b ∷ bytes) (eqb-true byte tag is) ∙ ap (λ (l : List ℕ). tag ∷ l) t.parts ∙ ap (λ (l : List ℕ). l ++ a.0.1) (sym (spelled a.0.0));
      known = known a.0.0 t.known;
    })

pub variant_again : {A X : Type 0} {P : A → Type 0} {f : A → List ℕ} {at : At A} (make : A → X) → IsReader P f at → (a : A) (rest : List ℕ) → P a → map_at make at (f a ++ rest) ≡ Ok (make a, rest)
variant_again make reader a rest known = ap (λ r. r >>>= λ y. Ok (make y.0, y.1)) (reader.again a rest known)

-- ---- byte strings and texts

prefix_takes : (len : ℕ) (bytes : List ℕ) (x : List ℕ × List ℕ) → prefix_at len bytes ≡ Ok x → (bytes ≡ x.0 ++ x.1) × (length x.0 ≡ len)
unfolding prefix_at
prefix_takes len bytes x e =
    let g = guard_ok (ltb (length bytes) len) Malformed (take len bytes, drop len bytes) x e in
    let long : len ≤ length bytes = ltb-false _ _ g.0 in
    subst (λ (y : List ℕ × List ℕ). (bytes ≡ y.0 ++ y.1) × (length y.0 ≡ len)) g.1 (sym (take-append-drop len bytes), omega (arith, length-take len bytes))

prefix_again : (front rest : List ℕ) → prefix_at (length front) (front ++ rest) ≡ Ok (front, rest)
unfolding prefix_at
prefix_again front rest =
    let long : ltb (length (front ++ rest)) (length front) ≡ false = le-ltb _ _ (omega (arith, length-append front rest)) in
    rw (long, take_at front rest (length front) refl, drop_at front rest (length front) refl) refl

bytes_takes : (bytes : List ℕ) (x : List ℕ × List ℕ) → IsBytes bytes → bytes_at bytes ≡ Ok x → Takes IsByteString bytes_code bytes x
unfolding bytes_at bytes_code
bytes_takes bytes x fits e =
    let a = bind_ok (u64_at bytes) (λ y. prefix_at y.0 y.1) x e in
    let len = u64_takes bytes a.0 fits a.1 in
    let t = prefix_takes a.0.0 a.0.1 x a.2 in
    record {
      parts = len.parts ∙ ap (λ (l : List ℕ). u64_code a.0.0 ++ l) t.0 ∙ ap (λ (n : ℕ). u64_code n ++ (x.0 ++ x.1)) (sym t.1) ∙ sym (append_assoc (u64_code (length x.0)) x.0 x.1);
      known = subst IsU64 (sym t.1) len.known;
    }

bytes_again : (content rest : List ℕ) → IsByteString content → bytes_at (bytes_code content ++ rest) ≡ Ok (content, rest)
unfolding bytes_at bytes_code
bytes_again content rest known =
    ap (λ l. u64_at l >>>= λ y. prefix_at y.0 y.1) (append_assoc (u64_code (length content)) content rest)
    ∙ ap (λ r. r >>>= λ y. prefix_at y.0 y.1) (u64_reader.again (length content) (content ++ rest) known)
    ∙ prefix_again content rest

pub bytes_reader : IsReader IsByteString bytes_code bytes_at
bytes_reader = record { takes = bytes_takes; again = bytes_again }

text_takes : (bytes : List ℕ) (x : List ℕ × List ℕ) → IsBytes bytes → text_at bytes ≡ Ok x → Takes IsText bytes_code bytes x
unfolding text_at
text_takes bytes x fits e =
    let a = bind_ok (bytes_at bytes) (λ y. cond (is_utf8 y.0) (Ok y) (Err Malformed)) x e in
    let w = wanted_ok (is_utf8 a.0.0) Malformed a.0 x a.2 in
    let t = bytes_takes bytes a.0 fits a.1 in
    subst (Takes IsText bytes_code bytes) w.1 (record { parts = t.parts; known = (t.known, IsUtf8-from_is_utf8 a.0.0 w.0) })

text_again : (text rest : List ℕ) → IsText text → text_at (bytes_code text ++ rest) ≡ Ok (text, rest)
unfolding text_at
text_again text rest known =
    ap (λ r. r >>>= λ y. cond (is_utf8 y.0) (Ok y) (Err Malformed)) (bytes_again text rest known.0)
    ∙ ap (λ b. cond b (Ok (text, rest)) (Err Malformed)) (is_utf8-from_IsUtf8 text known.1)

pub text_reader : IsReader IsText bytes_code text_at
text_reader = record { takes = text_takes; again = text_again }

-- ---- values

from_key_ok : (r : Result (Value × List ℕ) KeyFault) (x : Value × List ℕ) → from_key r ≡ Ok x → r ≡ Ok x
from_key_ok (Ok y) x e = let same : y ≡ x = ok_is y x e in ap (λ z. Ok z) same
from_key_ok (Err f) x e = absurd cc

values_take : (bytes : List ℕ) (x : Value × List ℕ) → IsBytes bytes → value_at bytes ≡ Ok x → Takes IsStorable value_code bytes x
unfolding value_at
values_take bytes x fits e =
    let t = value_takes bytes x fits (from_key_ok (key_value_at bytes) x e) in
    record { parts = t.parts; known = (t.value, t.short) }

values_again : (v : Value) (rest : List ℕ) → IsStorable v → value_at (value_code v ++ rest) ≡ Ok (v, rest)
unfolding value_at
values_again v rest known = ap from_key (value_again v rest known.0 known.1)

pub value_reader : IsReader IsStorable value_code value_at
value_reader = record { takes = values_take; again = values_again }

-- ---- lists

-- what was read after the items before
record TakesAll {X : Type 0} (P : X → Type 0) (code : X → List ℕ) (before : List X) (count : ℕ) (bytes : List ℕ) (x : List X × List ℕ) : Type 0 where
  pub more : List X
  pub whole : x.0 ≡ before ++ more
  pub parts : bytes ≡ flat_map code more ++ x.1
  pub number : length more ≡ count
  pub known : AllByRecursion P more

module _ {X : Type 0} (P : X → Type 0) (code : X → List ℕ) (at : At X) (reader : IsReader P code at) where
  items_take : (before : List X) (count : ℕ) (bytes : List ℕ) (x : List X × List ℕ) → IsBytes bytes → items_at at before count bytes ≡ Ok x → TakesAll P code before count bytes x
  unfolding items_at
  items_take before zero bytes x fits e =
      subst (TakesAll P code before 0 bytes) (ok_is (before, bytes) x e) (record { more = []; whole = sym (append-nil before); parts = refl; number = refl; known = tt })
  items_take before (suc count) bytes x fits e =
      let g = bind_ok (at bytes) (λ y. items_at at (before ++ y.0 ∷ []) count y.1) x e in
      let f = reader.takes bytes g.0 fits g.1 in
      let t = items_take (before ++ g.0.0 ∷ []) count g.0.1 x (rest_bytes (code g.0.0) g.0.1 bytes f.parts fits) g.2 in
      record {
        more = g.0.0 ∷ t.more;
        whole = t.whole ∙ append_assoc before (g.0.0 ∷ []) t.more;
        parts = f.parts ∙ ap (λ (l : List ℕ). code g.0.0 ++ l) t.parts ∙ sym (append_assoc (code g.0.0) (flat_map code t.more) x.1);
        number = ap suc t.number;
        known = (f.known, t.known);
      }

  items_again : (before xs : List X) (rest : List ℕ) → AllByRecursion P xs → items_at at before (length xs) (flat_map code xs ++ rest) ≡ Ok (before ++ xs, rest)
  unfolding items_at
  items_again before [] rest known = ap (λ (l : List X). Ok (l, rest)) (sym (append-nil before))
  items_again before (x ∷ xs) rest known =
      ap (items_at at before (suc (length xs))) (append_assoc (code x) (flat_map code xs) rest)
      ∙ ap (λ r. r >>>= λ y. items_at at (before ++ y.0 ∷ []) (length xs) y.1) (reader.again x (flat_map code xs ++ rest) known.0)
      ∙ items_again (before ++ x ∷ []) xs rest known.1
      ∙ ap (λ (l : List X). Ok (l, rest)) (append_assoc before (x ∷ []) xs)

  list_takes : (bytes : List ℕ) (x : List X × List ℕ) → IsBytes bytes → list_at at bytes ≡ Ok x → Takes (IsList P) (list_code code) bytes x
  unfolding list_at list_code
  list_takes bytes x fits e =
      let a = bind_ok (u64_at bytes) (λ y. items_at at [] y.0 y.1) x e in
      let len = u64_takes bytes a.0 fits a.1 in
      let t = items_take [] a.0.0 a.0.1 x (rest_bytes (u64_code a.0.0) a.0.1 bytes len.parts fits) a.2 in
      let number : a.0.0 ≡ length x.0 = sym t.number ∙ ap length (sym t.whole) in
      record {
        parts = len.parts ∙ ap (λ (l : List ℕ). u64_code a.0.0 ++ l) (t.parts ∙ ap (λ (l : List X). flat_map code l ++ x.1) (sym t.whole))
            ∙ ap (λ (n : ℕ). u64_code n ++ (flat_map code x.0 ++ x.1)) number ∙ sym (append_assoc (u64_code (length x.0)) (flat_map code x.0) x.1);
        known = (subst IsU64 number len.known, subst (AllByRecursion P) (sym t.whole) t.known);
      }

  list_again : (xs : List X) (rest : List ℕ) → IsList P xs → list_at at (list_code code xs ++ rest) ≡ Ok (xs, rest)
  unfolding list_at list_code
  list_again xs rest known =
      ap (λ l. u64_at l >>>= λ y. items_at at [] y.0 y.1) (append_assoc (u64_code (length xs)) (flat_map code xs) rest)
      ∙ ap (λ r. r >>>= λ y. items_at at [] y.0 y.1) (u64_reader.again (length xs) (flat_map code xs ++ rest) known.0)
      ∙ items_again [] xs rest known.1

pub list_reader : {X : Type 0} {P : X → Type 0} {code : X → List ℕ} {at : At X} → IsReader P code at → IsReader (IsList P) (list_code code) (list_at at)
list_reader {X} {P} {code} {at} reader = record { takes = list_takes P code at reader; again = list_again P code at reader }
