-- Which versions are usable.
use Rattle.std.proofs.Common.{◌≡◌, ℕ, ◌+◌, ◌<◌, ◌≤◌, ◌↔◌, List, [], ◌∷◌, length, ◌⊎◌, inl, inr, arith, refl, sym, subst}
use Rattle.lease.specs.Timeline.{Timeline, IsTimeline, IsValid, WasNewest, IsUsable, IsNewestOrBefore, IsLastTwo, first_of, last_publication, newest, earliest}

-- a lease that was granted while a version before the newest stood has ended once the newest has stood for the length
granted_before : (length : ℕ) (ps : List ℕ) (v g now : ℕ) → IsTimeline length ps → first_of ps ≤ now → WasNewest ps v g now → g ≤ now
granted_before n [] v g now t le w = absurd w
granted_before n (p ∷ []) v g now t le (inl w) = w.2
granted_before n (p ∷ []) v g now t le (inr w) = absurd w
granted_before n (p ∷ q ∷ rest) v g now t le (inl w) = w.2
granted_before n (p ∷ q ∷ rest) v g now t le (inr w) =
    let le_p = granted_before n (q ∷ rest) v g p t.1 (omega (arith, t.0)) w in omega (arith, le_p, le)

-- a lease that is in force was granted on one of the last two versions
pub in_use : (n : ℕ) (ps : List ℕ) (v g now : ℕ) → IsTimeline n ps → first_of ps ≤ now → WasNewest ps v g now → now < g + n
    → (v ≡ length ps) ⊎ ((1 ≤ v) × (v + 1 ≡ length ps) × (now < first_of ps + n))
in_use n [] v g now t le w less = absurd w
in_use n (p ∷ []) v g now t le (inl w) less = inl w.0
in_use n (p ∷ []) v g now t le (inr w) less = absurd w
in_use n (p ∷ q ∷ rest) v g now t le (inl w) less = inl w.0
in_use n (p ∷ q ∷ rest) v g now t le (inr (inl w)) less = inr (omega (arith, w.0), omega (arith, w.0), omega (arith, w.2))
in_use n (p ∷ q ∷ []) v g now t le (inr (inr w)) less = absurd w
in_use n (p ∷ q ∷ r ∷ rest) v g now t le (inr (inr w)) less =
    let before = granted_before n (r ∷ rest) v g q t.1.1 (omega (arith, t.1.0)) w in
    absurd (omega (arith, before, t.0, le, less))

stood_now : (n : ℕ) (ps : List ℕ) (now : ℕ) → IsTimeline n ps → first_of ps ≤ now → WasNewest ps (length ps) now now
stood_now n [] now t le = absurd t
stood_now n (p ∷ rest) now t le = inl (refl, le, omega arith)

stood_before : (n : ℕ) (ps : List ℕ) (v now : ℕ) → IsTimeline n ps → 1 ≤ v → v + 1 ≡ length ps → WasNewest ps v (first_of ps) now
stood_before n [] v now t some e = absurd t
stood_before n (p ∷ []) v now t some e = absurd (omega arith)
stood_before n (p ∷ q ∷ rest) v now t some e = inr (inl (omega arith, omega (arith, t.0), omega arith))

pub usable_from : (line : Timeline) (version now : ℕ) → IsValid line → last_publication line ≤ now → IsNewestOrBefore line version now → IsUsable line version now
usable_from line version now valid le (inl e) = (
  record { version = newest line; granted = now; until = now + line.length },
  sym e,
  record { in_time = stood_now line.length line.published now valid.in_turn le; full = refl },
  omega (arith, valid.within.0),
)
usable_from line version now valid le (inr h) = (
  record { version = version; granted = last_publication line; until = earliest line },
  refl,
  record { in_time = stood_before line.length line.published version now valid.in_turn h.0 h.1; full = refl },
  h.2,
)

pub usable_to : (line : Timeline) (version now : ℕ) → IsValid line → last_publication line ≤ now → IsUsable line version now → IsNewestOrBefore line version now
usable_to line version now valid le u =
    subst (λ (v : ℕ). IsNewestOrBefore line v now) u.1
    (in_use line.length line.published u.0.version u.0.granted now valid.in_turn le u.2.in_time (omega (arith, u.2.full, u.3)))

pub usable_exactly : (line : Timeline) (version now : ℕ) → IsValid line → last_publication line ≤ now → IsUsable line version now ↔ IsNewestOrBefore line version now
usable_exactly line version now valid le = (usable_to line version now valid le, usable_from line version now valid le)

pub usable_last : (line : Timeline) (version now : ℕ) → IsValid line → last_publication line ≤ now → IsUsable line version now → IsLastTwo line version
usable_last line version now valid le u = last_two (usable_to line version now valid le u)
  where
    last_two : IsNewestOrBefore line version now → IsLastTwo line version
    last_two (inl e) = inl e
    last_two (inr h) = inr (h.0, h.1)
