-- Writes that all give the same leave the same pairs where they are of the same keys.
use Rattle.std.proofs.Common.{◌≡◌, List, [], ◌∷◌, ◌++◌, Option, refl, sym, ap, ◌∙◌, inl, inr, ◌⊎◌}
use Rattle.std.specs.List.{AllByRecursion, flat_map}
use Rattle.std.specs.FinMap as map
use Rattle.byte_map.proofs.Order.{bytes_cmp_total, bytes_cmp-IsAntisymmetric}
use Rattle.byte_map.proofs.Written.{same_or_apart, written_here, written_apart}
use Rattle.row_map.specs.Rows.{Bytes, Pairs}
use Rattle.row_map.specs.Writes.{Writes, written, written_all}

-- a write is of this key
abbrev pub Named : Bytes → Writes → Type 0
Named q [] = ⊥
Named q (w ∷ ws) = (q ≡ w.0) ⊎ Named q ws

-- all writes give this, whatever their keys are
abbrev pub AllGive : Option Bytes → Writes → Type 0
AllGive o [] = Unit {0}
AllGive o (w ∷ ws) = (w.1 ≡ o) × AllGive o ws

pub AllGive-append : (o : Option Bytes) (ws us : Writes) → AllGive o ws → AllGive o us → AllGive o (ws ++ us)
AllGive-append o [] us p q = q
AllGive-append o (w ∷ ws) us p q = (p.0, AllGive-append o ws us p.1 q)

pub all_give : {A : Type 0} (o : Option Bytes) (f : A → Writes) (F : A → Type 0) → ((x : A) → F x → AllGive o (f x)) → (xs : List A) → AllByRecursion F xs → AllGive o (flat_map f xs)
all_give o f F h [] all = tt
all_give o f F h (x ∷ xs) all = AllGive-append o (f x) (flat_map f xs) (h x all.0) (all_give o f F h xs all.1)

named_left : (q : Bytes) (ws us : Writes) → Named q ws → Named q (ws ++ us)
named_left q [] us h = absurd h
named_left q (w ∷ ws) us h = elim h [ inl e ↦ inl e | inr later ↦ inr (named_left q ws us later) ]

named_right : (q : Bytes) (ws us : Writes) → Named q us → Named q (ws ++ us)
named_right q [] us h = h
named_right q (w ∷ ws) us h = inr (named_right q ws us h)

named_parts : (q : Bytes) (ws us : Writes) → Named q (ws ++ us) → Named q ws ⊎ Named q us
named_parts q [] us h = inr h
named_parts q (w ∷ ws) us h = elim h [
  | inl e ↦ inl (inl e)
  | inr later ↦ elim (named_parts q ws us later) [ inl l ↦ inl (inr l) | inr r ↦ inr r ]
]

-- the element whose writes name the key
pub record From {A : Type 0} (q : Bytes) (f : A → Writes) (F : A → Type 0) : Type 0 where
  pub item : A
  pub fact : F item
  pub named : Named q (f item)

pub named_from : {A : Type 0} (q : Bytes) (f : A → Writes) (F : A → Type 0) (xs : List A) → AllByRecursion F xs → Named q (flat_map f xs) → From q f F
named_from q f F [] all h = absurd h
named_from q f F (x ∷ xs) all h = elim (named_parts q (f x) (flat_map f xs) h) [
  | inl here ↦ record { item = x; fact = all.0; named = here }
  | inr later ↦ named_from q f F xs all.1 later
]

-- one of the elements
abbrev pub Among : {A : Type 0} → (A → Type 0) → List A → Type 0
Among F [] = ⊥
Among F (x ∷ xs) = F x ⊎ Among F xs

pub named_among : {A : Type 0} (q : Bytes) (f : A → Writes) (F : A → Type 0) → ((x : A) → F x → Named q (f x)) → (xs : List A) → Among F xs → Named q (flat_map f xs)
named_among q f F h [] at = absurd at
named_among q f F h (x ∷ xs) at = elim at [
  | inl here ↦ named_left q (f x) (flat_map f xs) (h x here)
  | inr later ↦ named_right q (f x) (flat_map f xs) (named_among q f F h xs later)
]

either : (q : Bytes) (ws : Writes) → Named q ws ⊎ (Named q ws → ⊥)
either q [] = inr (λ h. h)
either q (w ∷ ws) = elim (same_or_apart bytes_cmp_total bytes_cmp-IsAntisymmetric q w.0) [
  | inl e ↦ inl (inl e)
  | inr ne ↦ elim (either q ws) [ inl later ↦ inl (inr later) | inr none ↦ inr (λ h. elim h [ inl e ↦ ne e | inr later ↦ none later ]) ]
]

-- what a key has stays, where all writes give it
stays : (o : Option Bytes) (ws : Writes) (P : Pairs) (q : Bytes) → AllGive o ws → map.get P q ≡ o → map.get (written_all P ws) q ≡ o
stays o [] P q all at = at
stays o (w ∷ ws) P q all at = stays o ws (written P w.0 w.1) q all.1 (elim (same_or_apart bytes_cmp_total bytes_cmp-IsAntisymmetric q w.0) [
  | inl e ↦ ap (map.get (written P w.0 w.1)) e ∙ written_here bytes_cmp_total bytes_cmp-IsAntisymmetric P w.0 w.1 ∙ all.0
  | inr ne ↦ written_apart bytes_cmp_total bytes_cmp-IsAntisymmetric P w.0 w.1 q ne ∙ at
])

-- a key that is written has what all writes give
comes : (o : Option Bytes) (ws : Writes) (P : Pairs) (q : Bytes) → AllGive o ws → Named q ws → map.get (written_all P ws) q ≡ o
comes o [] P q all h = absurd h
comes o (w ∷ ws) P q all h = elim h [
  | inl e ↦ stays o ws (written P w.0 w.1) q all.1 (ap (map.get (written P w.0 w.1)) e ∙ written_here bytes_cmp_total bytes_cmp-IsAntisymmetric P w.0 w.1 ∙ all.0)
  | inr later ↦ comes o ws (written P w.0 w.1) q all.1 later
]

-- another key keeps what it has
passed : (ws : Writes) (P : Pairs) (q : Bytes) → (Named q ws → ⊥) → map.get (written_all P ws) q ≡ map.get P q
passed [] P q none = refl
passed (w ∷ ws) P q none =
    passed ws (written P w.0 w.1) q (λ later. none (inr later))
    ∙ written_apart bytes_cmp_total bytes_cmp-IsAntisymmetric P w.0 w.1 q (λ e. none (inl e))

pub written_same : (o : Option Bytes) (ws us : Writes) → AllGive o ws → AllGive o us → ((q : Bytes) → Named q ws → Named q us) → ((q : Bytes) → Named q us → Named q ws) → (P : Pairs) → written_all P ws ≡ written_all P us
written_same o ws us give also to from P =
    map.same_map bytes_cmp_total bytes_cmp-IsAntisymmetric (written_all P ws) (written_all P us) (λ q. elim (either q ws) [
      | inl h ↦ comes o ws P q give h ∙ sym (comes o us P q also (to q h))
      | inr none ↦ passed ws P q none ∙ sym (passed us P q (λ h. none (from q h)))
    ])
