-- Each kind of step keeps the rule.
use Rattle.std.proofs.Common.{◌≡◌, ◌≢◌, ℕ, ◌+◌, ◌-◌, ◌%◌, ◌^◌, ◌<◌, ◌≤◌, List, [], ◌∷◌, ◌++◌, set, refl, sym, ap, ◌∙◌, subst, ⊎_elim, arith, rules, get_or-set_same, length-set}
use Rattle.std.proofs.Math.Nat.{mod-eq_of_lt}
use Rattle.std.specs.Prelude.{slice_index}
use mathlib.Core.Option.{some, none, some-injective, some-ne-none}
use lib.ListN.{get_elem?}
use Rattle.atomic_table.specs.Table.{State, Me, step, opening, Allows, Splits, Joins, keeps, Final, Seen}
use Rattle.atomic_table.proofs.Lists.{at_set, at_snoc}
use Rattle.claims.specs.declared.rule.Hand.{Hand}
use Rattle.claims.specs.declared.rule.Terms.{Terms}
use Rattle.claims.specs.Draws.{hand, times, late, total_of, once_below, FitsHand, Drawn, Draws}
use Rattle.claims.proofs.Totals.{total_set, total_snoc, total_le, total_part, total_whole, times_append, late_append, once_below_next, late_next, late_one_le}

-- what holds of each view holds after one was changed
fits_set : (t : ℕ) (views : List Hand) (id : ℕ) (w : Hand) → FitsHand t w → ((j : ℕ) (u : Hand) → get_elem? views j ≡ some u → FitsHand t u)
    → (j : ℕ) (u : Hand) → get_elem? (set views id w) j ≡ some u → FitsHand t u
fits_set t views id w mine others j u at =
    ⊎_elim (λ (p : (j ≡ id) × (w ≡ u)). subst (λ y. FitsHand t y) p.1 mine) (λ (p : (j ≢ id) × (get_elem? views j ≡ some u)). others j u p.1) (at_set views id j w u at)

fits_snoc : (t : ℕ) (views : List Hand) (w : Hand) → FitsHand t w → ((j : ℕ) (u : Hand) → get_elem? views j ≡ some u → FitsHand t u)
    → (j : ℕ) (u : Hand) → get_elem? (views ++ w ∷ []) j ≡ some u → FitsHand t u
fits_snoc t views w mine others j u at =
    ⊎_elim (λ (p : get_elem? views j ≡ some u). others j u p) (λ (p : w ≡ u). subst (λ y. FitsHand t y) p mine) (at_snoc views w u j at)

pub opens : (k : Terms) → k.total + k.seats < 2000000 → Drawn k (opening (0 ∷ []) [] (hand k.total k.seats []))
opens k small = (
  refl,
  omega arith,
  (λ x. grind (arith, rules)),
  omega arith,
  (λ id v at. fits_snoc k.total [] (hand k.total k.seats []) ((λ _. refl), (λ _. refl), omega arith) (λ j u here. absurd (some-ne-none u (sym here))) id v at),
  small,
)

-- the numbers that were drawn are few
few : (k : Terms) (s : State (Unit {0}) Hand) → Drawn k s → slice_index s.words 0 ≤ k.total + k.seats
few k s b =
    let l = total_le (λ v. late k.total v.drawn) (λ v. v.seats) s.views (λ id v at. (b.4 id v at).2) in
    let e = b.3 in
    let n = b.1 in omega arith

pub draws : (k : Terms) (slots id : ℕ) (me : Me (Unit {0}) Hand) → late me.0.total me.0.drawn < me.0.seats
    → Allows (Drawn k) slots id me 0 (λ n. (n + 1) % 2 ^ 64) (Draws (step slots 0 1 0 none) me)
draws k slots id me room s b _ at _ =
    let v = me.0 in
    let n = slice_index s.words 0 in
    let w = hand v.total v.seats (v.drawn ++ n ∷ []) in
    let fits = b.4 id v at in
    let known : v.total ≡ k.total = fits.1 (omega arith) in
    let short = few k s b in
    let limit = b.5 in
    let lt : n + 1 < 2 ^ 64 = omega arith in
    let next : slice_index (set s.words 0 ((n + 1) % 2 ^ 64)) 0 ≡ n + 1 =
    get_or-set_same s.words 0 ((n + 1) % 2 ^ 64) 0 (omega (arith, b.0)) ∙ mod-eq_of_lt lt in
    let mine : FitsHand k.total w = ((λ none_left. absurd (omega arith)), (λ _. known), omega (arith, late_append k.total v.drawn (n ∷ []), ap (λ t. late t v.drawn) known, late_one_le k.total n)) in (
      w,
      keeps,
      tt,
      (
        length-set s.words 0 ((n + 1) % 2 ^ 64) ∙ b.0,
        (let t = total_set (λ u. u.seats) s.views id v w at in let p = b.1 in omega arith),
        (λ x.
            let t = total_set (λ u. times x u.drawn) s.views id v w at in
            let p = b.2 x in
            ap (λ m. m) (omega (arith, times_append x v.drawn (n ∷ []), once_below_next x n)) ∙ ap (once_below x) (sym next)),
        (let t = total_set (λ u. late k.total u.drawn) s.views id v w at in
            let p = b.3 in
            omega (arith, late_append k.total v.drawn (n ∷ []), late_next k.total n) ∙ ap (λ m. m - k.total) (sym next)),
        fits_set k.total s.views id w mine b.4,
        limit,
      ),
      (refl, refl),
    )

pub splits : (k : Terms) (id : ℕ) (v : Hand) → 1 < v.seats → v.drawn ≡ [] → Splits (Drawn k) id v (hand v.total (v.seats - 1) v.drawn) (hand v.total 1 [])
splits k id v more idle s b at =
    let l = hand v.total (v.seats - 1) v.drawn in
    let r = hand v.total 1 [] in
    let known : v.total ≡ k.total = (b.4 id v at).1 (omega arith) in
    let none_late : late k.total v.drawn ≡ 0 = ap (late k.total) idle in
    let left : FitsHand k.total l = ((λ _. idle), (λ _. known), omega arith) in
    let right : FitsHand k.total r = ((λ _. refl), (λ _. known), omega arith) in (
      b.0,
      (let t = total_set (λ u. u.seats) s.views id v l at in let u = total_snoc (λ u. u.seats) (set s.views id l) r in let p = b.1 in omega arith),
      (λ x. let t = total_set (λ u. times x u.drawn) s.views id v l at in let u = total_snoc (λ u. times x u.drawn) (set s.views id l) r in let p = b.2 x in omega arith),
      (let t = total_set (λ u. late k.total u.drawn) s.views id v l at in let u = total_snoc (λ u. late k.total u.drawn) (set s.views id l) r in let p = b.3 in omega arith),
      fits_snoc k.total (set s.views id l) r right (fits_set k.total s.views id l left b.4),
      b.5,
    )

pub joins : (k : Terms) (id : ℕ) (v : Hand) (other : ℕ) (w : Hand) → 0 < v.seats → Joins (Drawn k) id v other w (hand v.total (v.seats + w.seats) (v.drawn ++ w.drawn)) (hand 0 0 [])
joins k id v other w some_seat s b at two here =
    let both = hand v.total (v.seats + w.seats) (v.drawn ++ w.drawn) in
    let spent = hand 0 0 [] in
    let views = set s.views id both in
    let was : get_elem? s.views other ≡ some w = ⊎_elim (λ (t : (other ≡ id) × (both ≡ w)). absurd (two t.0)) (λ (t : (other ≢ id) × (get_elem? s.views other ≡ some w)). t.1) (at_set s.views id other both w here) in
    let known : v.total ≡ k.total = (b.4 id v at).1 (omega arith) in
    let mine = (b.4 id v at).2 in
    let theirs = (b.4 other w was).2 in
    let fits : FitsHand k.total both = ((λ none_left. absurd (omega arith)), (λ _. known), omega (arith, late_append k.total v.drawn w.drawn)) in
    let idle : FitsHand k.total spent = ((λ _. refl), (λ h. absurd (omega arith)), omega arith) in (
      b.0,
      (let t = total_set (λ u. u.seats) s.views id v both at in let u = total_set (λ u. u.seats) views other w spent here in let p = b.1 in omega arith),
      (λ x. let t = total_set (λ u. times x u.drawn) s.views id v both at in let u = total_set (λ u. times x u.drawn) views other w spent here in let p = b.2 x in omega (arith, times_append x v.drawn w.drawn)),
      (let t = total_set (λ u. late k.total u.drawn) s.views id v both at in let u = total_set (λ u. late k.total u.drawn) views other w spent here in let p = b.3 in omega (arith, late_append k.total v.drawn w.drawn)),
      fits_set k.total views other spent idle (fits_set k.total s.views id both fits b.4),
      b.5,
    )

at_head : (ws : List ℕ) (n : ℕ) → get_elem? ws 0 ≡ some n → slice_index ws 0 ≡ n
at_head [] n e = absurd (some-ne-none n (sym e))
at_head (w ∷ ws) n e = some-injective w n e

-- the rule of the word that was read at the end, by the names of a type parameter

found : (words ws : List ℕ) (word : ℕ) → words ≡ ws → get_elem? ws 0 ≡ some word → slice_index words 0 ≡ word
found words ws word is read = ap (λ l. slice_index l 0) is ∙ at_head ws word read

-- the word is at most the number of numbers and seats
pub ends_most : (k : Terms) (total seats : ℕ) (words : List ℕ) (slots : List (Unit {0})) (word : ℕ) → k.total ≡ total → k.seats ≡ seats → get_elem? words 0 ≡ some word
    → Final (Drawn k) words slots → word ≤ total + seats
ends_most k total seats words slots word total_is seats_is read f =
    omega (arith, few k f.0 f.1, found f.0.words words word f.2 read, total_is, seats_is)

-- the numbers of one seat are below the word, each once, and its late numbers are among those from the total on
pub ends_with : (k : Terms) (total seats id : ℕ) (v : Hand) (words : List ℕ) (slots : List (Unit {0})) (word : ℕ) → k.total ≡ total → k.seats ≡ seats → get_elem? words 0 ≡ some word
    → Final (Seen (Drawn k) id v) words slots
    → ((x : ℕ) → times x v.drawn ≤ once_below x word) × (late total v.drawn ≤ word - total) × (word ≤ total + seats)
ends_with k total seats id v words slots word total_is seats_is read f =
    let s = f.0 in
    let b = f.1.0 in
    let at = f.1.1 in
    let is = found s.words words word f.2 read in (
      (λ x. omega (arith, total_part (λ u. times x u.drawn) s.views id v at, b.2 x, ap (once_below x) is)),
      omega (arith, total_part (λ u. late k.total u.drawn) s.views id v at, b.3, is, total_is, ap (λ t. late t v.drawn) total_is),
      omega (arith, few k s b, is, total_is, seats_is),
    )

-- the numbers of a seat that stands for all seats are all that are below the word
pub ends_all : (k : Terms) (seats id : ℕ) (v : Hand) (words : List ℕ) (slots : List (Unit {0})) (word : ℕ) → k.seats ≡ seats → get_elem? words 0 ≡ some word
    → Final (Seen (Drawn k) id v) words slots → v.seats ≡ seats → (x : ℕ) → times x v.drawn ≡ once_below x word
ends_all k seats id v words slots word seats_is read f all x =
    let s = f.0 in
    let b = f.1.0 in
    let at = f.1.1 in
    let whole : total_of (λ u. u.seats) s.views ≡ v.seats = b.1 ∙ seats_is ∙ sym all in
    sym (total_whole (λ u. times x u.drawn) s.views id v at whole refl (λ j u here none. ap (times x) ((b.4 j u here).0 none))) ∙ b.2 x ∙ ap (once_below x) (found s.words words word f.2 read)
