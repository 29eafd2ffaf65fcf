-- What the reader of a whole code reports.
use Rattle.std.proofs.Common.{◌≡◌, ◌≢◌, ℕ, true, false, cond, eqb, List, [], ◌∷◌, ◌++◌, length, Result, Ok, Err, refl, sym, ap, subst, ◌∙◌, arith, inl, inr}
use Rattle.std.specs.Prelude.{IfErr}
use Rattle.std.proofs.lemmas.Bool.{eqb-true}
use Rattle.std.proofs.lemmas.List.{append-nil, nil_from_length}
use Rattle.collections.specs.Answers.{GivesOr}
use Rattle.keycode.proofs.Fields.{IsBytes}
use Rattle.entry_code.specs.declared.fault.CodeFault.{CodeFault}
use Rattle.entry_code.specs.declared.fault.CodeFault.TheVariants.{Version, Trailing, Malformed, Memory}
use Rattle.entry_code.specs.Code.{versioned}
use Rattle.entry_code.specs.Read.{HasVersion, HasTrail, HasNone, IsRead, IsAccepted}
use Rattle.entry_code.specs.inner.At.{At, end_of, whole_of, whole_at}
use Rattle.entry_code.proofs.Readers.{IsReader, done, ok_is, chosen, rest_bytes}

tail : {x y : ℕ} {xs ys : List ℕ} → x ∷ xs ≡ y ∷ ys → xs ≡ ys
tail e = cc

-- the answer of a read, by what was read
record IsEnd {X : Type 0} (x : X × List ℕ) (y : X) : Type 0 where
  pub none : x.1 ≡ []
  pub same : x.0 ≡ y

ended : {X : Type 0} (x : X × List ℕ) (y : X) → end_of x ≡ Ok y → IsEnd x y
ended x y e =
    elim (chosen (eqb (length x.1) 0) (Ok x.0) (Err Trailing) (Ok y) e) [
      | inl t ↦ record { none = nil_from_length x.1 (eqb-true (length x.1) 0 t.0); same = ok_is x.0 y t.1 }
      | inr f ↦ absurd cc
    ]

trailing : {X : Type 0} (x : X × List ℕ) → end_of x ≡ Err Trailing → x.1 ≢ []
trailing x e none =
    let ends : end_of x ≡ Ok x.0 = ap (λ (l : List ℕ). cond (eqb (length l) 0) (Ok x.0) (Err Trailing)) none in
    absurd cc

not_other : {X : Type 0} (x : X × List ℕ) (fault : CodeFault) → fault ≢ Trailing → end_of x ≡ Err fault → ⊥
not_other x fault other e =
    elim (chosen (eqb (length x.1) 0) (Ok x.0) (Err Trailing) (Err fault) e) [
      | inl t ↦ absurd cc
      | inr f ↦ other (cc)
    ]

whole_ok : {X : Type 0} (r : Result (X × List ℕ) CodeFault) (y : X) → whole_of r ≡ Ok y → (x : X × List ℕ) × (r ≡ Ok x) × IsEnd x y
whole_ok (Ok x) y e = (x, refl, ended x y e)
whole_ok (Err fault) y e = absurd cc

whole_trailing : {X : Type 0} (r : Result (X × List ℕ) CodeFault) → whole_of r ≡ Err Trailing → (x : X × List ℕ) × (r ≡ Ok x) × (x.1 ≢ [])
whole_trailing (Ok x) e = (x, refl, trailing x e)
whole_trailing (Err fault) e = absurd cc

whole_malformed : {X : Type 0} (r : Result (X × List ℕ) CodeFault) → whole_of r ≡ Err Malformed → (fault : CodeFault) × (r ≡ Err fault)
whole_malformed (Ok x) e = absurd (not_other x Malformed (λ h. cc) e)
whole_malformed (Err fault) e = (fault, refl)

whole_version : {X : Type 0} (r : Result (X × List ℕ) CodeFault) → whole_of r ≡ Err Version → ⊥
whole_version (Ok x) e = not_other x Version (λ h. cc) e
whole_version (Err fault) e = cc

module _ {X : Type 0} (P : X → Type 0) (code : X → List ℕ) (at : At X) (reader : IsReader P code at) where
  found : (bytes : List ℕ) (x : X) → IsBytes bytes → whole_at at bytes ≡ Ok x → (bytes ≡ versioned code x) × P x
  unfolding whole_at
  found [] x fits e = absurd cc
  found (byte ∷ bytes) x fits e =
      elim (chosen (eqb byte 1) (whole_of (at bytes)) (Err Version) (Ok x) e) [
        | inl t ↦
            let read = whole_ok (at bytes) x t.1 in
            let taken = reader.takes bytes read.0 (rest_bytes (byte ∷ []) bytes (byte ∷ bytes) refl fits) read.1 in
            let parts : bytes ≡ code x = taken.parts ∙ ap (λ (l : List ℕ). code read.0.0 ++ l) read.2.none ∙ append-nil (code read.0.0) ∙ ap code read.2.same in
            let first : byte ≡ 1 = eqb-true byte 1 t.0 in
            ((λ i. first i ∷ parts i), subst P read.2.same taken.known)
        | inr f ↦ absurd cc
      ]

  other_version : (bytes : List ℕ) → whole_at at bytes ≡ Err Version → HasVersion bytes → ⊥
  unfolding whole_at
  other_version [] e has = omega arith
  other_version (byte ∷ bytes) e has =
      elim (chosen (eqb byte 1) (whole_of (at bytes)) (Err Version) (Err Version) e) [
        | inl t ↦ whole_version (at bytes) t.1
        | inr f ↦ let same : false ≡ true = sym f.0 ∙ ap (λ b. eqb b 1) has in cc
      ]

  goes_on : (bytes : List ℕ) → IsBytes bytes → whole_at at bytes ≡ Err Trailing → HasTrail P (versioned code) bytes
  unfolding whole_at
  goes_on [] fits e = absurd cc
  goes_on (byte ∷ bytes) fits e =
      elim (chosen (eqb byte 1) (whole_of (at bytes)) (Err Version) (Err Trailing) e) [
        | inl t ↦
            let read = whole_trailing (at bytes) t.1 in
            let taken = reader.takes bytes read.0 (rest_bytes (byte ∷ []) bytes (byte ∷ bytes) refl fits) read.1 in
            let first : byte ≡ 1 = eqb-true byte 1 t.0 in
            (read.0.0, read.0.1, taken.known, read.2, λ i. first i ∷ taken.parts i)
        | inr f ↦ absurd cc
      ]

  nothing : (bytes : List ℕ) → whole_at at bytes ≡ Err Malformed → HasVersion bytes × HasNone P (versioned code) bytes
  unfolding whole_at
  nothing [] e = absurd cc
  nothing (byte ∷ bytes) e =
      elim (chosen (eqb byte 1) (whole_of (at bytes)) (Err Version) (Err Malformed) e) [
        | inl t ↦
            let read = whole_malformed (at bytes) t.1 in (
              eqb-true byte 1 t.0,
              λ x rest p same.
                  let again : Err read.0 ≡ done (x, rest) = sym read.1 ∙ ap at (tail same) ∙ reader.again x rest p in
                  cc,
            )
        | inr f ↦ absurd cc
      ]

  reads : (bytes : List ℕ) → IsBytes bytes → (r : Result X CodeFault) → GivesOr Memory (λ x. x) r (whole_at at bytes) → IfErr r (λ fault. fault ≡ Memory → HasVersion bytes) → IsRead P (versioned code) bytes r
  reads bytes fits (Ok x) e m = found bytes x fits e
  reads bytes fits (Err Version) (inl e) m = absurd cc
  reads bytes fits (Err Version) (inr e) m = other_version bytes e
  reads bytes fits (Err Trailing) (inl e) m = absurd cc
  reads bytes fits (Err Trailing) (inr e) m = goes_on bytes fits e
  reads bytes fits (Err Malformed) (inl e) m = absurd cc
  reads bytes fits (Err Malformed) (inr e) m = nothing bytes e
  reads bytes fits (Err Memory) e m = m refl

  whole_again : (x : X) → P x → whole_at at (versioned code x) ≡ Ok x
  unfolding whole_at
  whole_again x p = ap whole_of (ap at (sym (append-nil (code x))) ∙ reader.again x [] p)

  accepts : (bytes : List ℕ) (r : Result X CodeFault) → GivesOr Memory (λ x. x) r (whole_at at bytes) → IsAccepted P (versioned code) bytes r
  accepts bytes (Ok y) e = λ x p same. ok_is y x (sym e ∙ ap (whole_at at) same ∙ whole_again x p)
  accepts bytes (Err fault) (inl m) = λ x p same. m
  accepts bytes (Err fault) (inr e) = λ x p same. let again : Err fault ≡ done x = sym e ∙ ap (whole_at at) same ∙ whole_again x p in absurd cc

pub reads_whole : {X : Type 0} {P : X → Type 0} {code : X → List ℕ} {at : At X} → IsReader P code at
    → (bytes : List ℕ) → IsBytes bytes → (r : Result X CodeFault) → GivesOr Memory (λ x. x) r (whole_at at bytes) → IfErr r (λ fault. fault ≡ Memory → HasVersion bytes) → IsRead P (versioned code) bytes r
reads_whole {X} {P} {code} {at} reader = reads P code at reader

pub accepts_whole : {X : Type 0} {P : X → Type 0} {code : X → List ℕ} {at : At X} → IsReader P code at
    → (bytes : List ℕ) (r : Result X CodeFault) → GivesOr Memory (λ x. x) r (whole_at at bytes) → IsAccepted P (versioned code) bytes r
accepts_whole {X} {P} {code} {at} reader = accepts P code at reader
