-- Pages that are written where they stand.
use Rattle.std.proofs.Common.{◌≡◌, ℕ, ◌+◌, ◌<◌, ◌≤◌, T, Bool, true, false, cond, List, [], ◌∷◌, ◌++◌, length, get_or, take, drop, set, Option, Some, None, refl, sym, ap, subst, ◌∙◌, arith, append-nil, true≢false}
use Rattle.std.specs.Option.{is_some, is_none, option_map}
use Rattle.std.specs.List as lists
use Rattle.std.specs.FinMap.Entries.{find, length-put, length_without}
use Rattle.std.proofs.lemmas.List.{drop_more, take-take, length-take-le, take_more_set, take_all, length-set, length-append}
use Rattle.byte_map.specs.Order.{bytes_cmp}
use Rattle.byte_map.specs.Sorted.{Entries, IsSorted, all_below, changed, changed_all}
use Rattle.byte_map.proofs.Order.{bytes_cmp_total}
use Rattle.byte_map.proofs.Entries.{sorted_changed}
use Rattle.page_map.specs.inner.FlatPairs.{Flat, HasRoom, size, wanted}
use Rattle.page_map.specs.Pages.{joined, Stands}
use Rattle.page_map.specs.Empties.{empties}
use Rattle.page_map.proofs.Cuts.{joined_append, around}
use Rattle.page_map.proofs.Empties.{empties-append, count_page, parts_fit}
use Rattle.page_map.proofs.Placing.{step}

abbrev Pages : Type 0
Pages = List (Entries (List ℕ))

abbrev Writes : Type 0
Writes = List (List ℕ × Option (List ℕ))

-- how many pairs changes add or take at most
abbrev pub IsNear : ℕ → ℕ → ℕ → Type 0
IsNear old new n = (new ≤ old + n) × (old ≤ new + n)

by_one : (b : Bool) (n m : ℕ) → n ≡ cond b m (m + 1) → IsNear m n 1
by_one true n m is = (omega (arith, is), omega (arith, is))
by_one false n m is = (omega (arith, is), omega (arith, is))

less_one : (b : Bool) (n m : ℕ) → cond b 1 0 + n ≡ m → IsNear m n 1
less_one true n m is = (omega (arith, is), omega (arith, is))
less_one false n m is = (omega (arith, is), omega (arith, is))

near_one : (es : Entries (List ℕ)) (k : List ℕ) (c : Option (List ℕ)) → IsSorted es → IsNear (length es) (length (changed es k c)) 1
near_one es k None h = less_one (is_some (find bytes_cmp k es)) _ _ (length_without bytes_cmp bytes_cmp_total k es h)
near_one es k (Some v) h = by_one (is_some (find bytes_cmp k es)) _ _ (length-put bytes_cmp bytes_cmp_total k v es h)

pub near_all : (es : Entries (List ℕ)) (ws : Writes) → IsSorted es → IsNear (length es) (length (changed_all es ws)) (length ws)
near_all es [] h = (omega arith, omega arith)
near_all es (w ∷ ws) h =
    let one : IsNear (length es) (length (changed es w.0 w.1)) 1 = near_one es w.0 w.1 h in
    let rest : IsNear (length (changed es w.0 w.1)) (length (changed_all (changed es w.0 w.1) ws)) (length ws) = near_all (changed es w.0 w.1) ws (sorted_changed es w.0 w.1 h) in
    (omega (arith, one.0, rest.0), omega (arith, one.1, rest.1))

-- puts take no pair away
at_least : (b : Bool) (n m : ℕ) → n ≡ cond b m (m + 1) → m ≤ n
at_least true n m is = omega (arith, is)
at_least false n m is = omega (arith, is)

puts_keep : (es : Entries (List ℕ)) (ws : Writes) → IsSorted es → lists.find (λ (w : List ℕ × Option (List ℕ)). is_none w.1) ws ≡ None → length es ≤ length (changed_all es ws)
puts_keep es [] h none = omega arith
puts_keep es ((k, None) ∷ ws) h none = absurd cc
puts_keep es ((k, Some v) ∷ ws) h none =
    let one : length es ≤ length (changed es k (Some v)) = at_least (is_some (find bytes_cmp k es)) _ _ (length-put bytes_cmp bytes_cmp_total k v es h) in
    let rest : length (changed es k (Some v)) ≤ length (changed_all (changed es k (Some v)) ws) = puts_keep (changed es k (Some v)) ws (sorted_changed es k (Some v) h) none in
    omega (arith, one, rest)

pub some_put : {X : Type 0} (now : X → List ℕ × Option (List ℕ)) (es : Entries (List ℕ)) (ws : Writes) (found : Option X) (b : Bool) → IsSorted es → 0 < length es → option_map now found ≡ lists.find (λ (w : List ℕ × Option (List ℕ)). is_none w.1) ws
    → b ≡ is_some found → b ≡ false → 0 < length (changed_all es ws)
some_put now es ws None b h some is b_is out = omega (arith, some, puts_keep es ws h (sym is))
some_put now es ws (Some w) b h some is b_is out = absurd (true≢false (sym b_is ∙ out))

pub some_more : (es : Entries (List ℕ)) (ws : Writes) → IsSorted es → length ws < length es → 0 < length (changed_all es ws)
some_more es ws h fewer = omega (arith, fewer, (near_all es ws h).1)

-- room for the changes that are left
pub room_left : (f : Flat) (ws : Writes) (i : ℕ) (w : List ℕ × Option (List ℕ)) → i < length ws → w ≡ get_or ws i w → HasRoom f (wanted (drop i ws)) (length (drop i ws)) → HasRoom f (size w.0 w.1 + wanted (drop (i + 1) ws)) (1 + length (drop (i + 1) ws))
room_left f ws i w lt is h =
    let more : drop i ws ≡ w ∷ drop (i + 1) ws = drop_more ws i w lt ∙ ap (λ (v : List ℕ × Option (List ℕ)). v ∷ drop (i + 1) ws) (sym is) in
    subst (λ (m : ℕ). HasRoom f (size w.0 w.1 + wanted (drop (i + 1) ws)) m) (omega arith) (subst (λ (l : Writes). HasRoom f (wanted l) (length l)) more h)

pub room_one : (f : Flat) (a b n : ℕ) → HasRoom f (a + b) (1 + n) → HasRoom f a 1
room_one f a b n h = record {
  fits = omega (arith, h.fits);
  counted = omega (arith, h.counted);
  slots = omega (arith, h.slots);
}

-- one page is written, and the pages after it are
module _ (ps : Pages) (at : ℕ) (page : Entries (List ℕ)) (lt : at < length ps) (is : page ≡ get_or ps at page) where
  pub one_page : joined (take 1 (drop at ps)) ≡ page
  one_page =
      ap (λ (l : Pages). joined (take 1 l)) (drop_more ps at page lt)
      ∙ append-nil (get_or ps at page)
      ∙ sym is

  joined_set : (new : Entries (List ℕ)) (behind : Pages) → joined (set (take (at + 1) ps) at new ++ behind) ≡ (joined (take at ps) ++ new) ++ joined behind
  joined_set new behind =
      let len : length (take (at + 1) ps) ≡ at + 1 = length-take-le (at + 1) ps (omega (arith, lt)) in
      let prefix : set (take (at + 1) ps) at new ≡ take at ps ++ new ∷ [] =
      sym (take_all (at + 1) (set (take (at + 1) ps) at new) (omega (arith, length-set (take (at + 1) ps) at new, len)))
      ∙ take_more_set (take (at + 1) ps) at new (omega (arith, len))
      ∙ ap (λ (l : Pages). l ++ new ∷ []) (take-take at (at + 1) ps (omega arith)) in
      joined_append (set (take (at + 1) ps) at new) behind
      ∙ ap (λ (l : Pages). joined l ++ joined behind) prefix
      ∙ ap (λ (l : Entries (List ℕ)). l ++ joined behind) (joined_append (take at ps) (new ∷ []) ∙ ap (λ (l : Entries (List ℕ)). joined (take at ps) ++ l) (append-nil new))

  pub all_length : length (joined ps) ≡ (length (joined (take at ps)) + length page) + length (joined (drop (at + 1) ps))
  all_length =
      let cut : length (joined ps) ≡ length (joined (take at ps)) + length (get_or ps at page ++ joined (drop (at + 1) ps)) = ap length (around ps at page lt) ∙ length-append (joined (take at ps)) _ in
      omega (arith, cut, length-append (get_or ps at page) (joined (drop (at + 1) ps)), ap length is)

  pub set_length : (new : Entries (List ℕ)) (behind : Pages) → length (joined (set (take (at + 1) ps) at new ++ behind)) ≡ (length (joined (take at ps)) + length new) + length (joined behind)
  set_length new behind = ap length (joined_set new behind) ∙ length-append (joined (take at ps) ++ new) (joined behind) ∙ ap (λ (n : ℕ). n + length (joined behind)) (length-append (joined (take at ps)) new)

  pub all_empties : length (empties (joined ps)) ≡ (length (empties (joined (take at ps))) + length (empties page)) + length (empties (joined (drop (at + 1) ps)))
  all_empties = omega (arith, parts_fit ps (at + 1), count_page ps at page lt is)

  pub set_empties : (new : Entries (List ℕ)) (behind : Pages)
      → length (empties (joined (set (take (at + 1) ps) at new ++ behind))) ≡ (length (empties (joined (take at ps))) + length (empties new)) + length (empties (joined behind))
  set_empties new behind =
      omega (
        arith,
        ap (λ (l : Entries (List ℕ)). length (empties l)) (joined_set new behind),
        ap length (empties-append (joined (take at ps) ++ new) (joined behind)),
        length-append (empties (joined (take at ps) ++ new)) (empties (joined behind)),
        ap length (empties-append (joined (take at ps)) new),
        length-append (empties (joined (take at ps))) (empties new),
      )

  pub all_written : (ws : Writes) (n : ℕ) (w : List ℕ × Option (List ℕ)) → IsSorted (joined ps) → IsSorted ws → Stands ws 0 w
      → T (all_below (joined (take at ps)) w.0)
      → ((page : Entries (List ℕ)) → IsSorted (page ++ joined (drop (at + 1) ps)) → changed_all (page ++ joined (drop (at + 1) ps)) ws ≡ changed_all page (take n ws) ++ changed_all (joined (drop (at + 1) ps)) (drop n ws))
      → (new : Entries (List ℕ)) (behind : Pages) → new ≡ changed_all page (take n ws) → joined behind ≡ changed_all (joined (drop (at + 1) ps)) (drop n ws) → joined (set (take (at + 1) ps) at new ++ behind) ≡ changed_all (joined ps) ws
  all_written ws n w sorted rising here below parts new behind one rest =
      joined_set new behind
      ∙ (λ i. (joined (take at ps) ++ (one ∙ ap (λ (p : Entries (List ℕ)). changed_all p (take n ws)) (sym one_page)) i) ++ rest i)
      ∙ ap (λ (m : ℕ). (joined (take at ps) ++ changed_all (joined (take 1 (drop at ps))) (take n ws)) ++ changed_all (joined (drop (at + 1) ps)) (drop m ws)) (omega arith)
      ∙ step ps ws ws (take n ws) 0 at 0 n w [] _ (changed_all (joined ps) ws) sorted rising (omega arith) (omega (arith, lt)) refl here refl below parts refl refl
