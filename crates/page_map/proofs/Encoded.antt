-- Pairs that slots mark, edited by their slots.
use Rattle.std.proofs.Common.{◌≡◌, ℕ, zero, suc, ◌-◌, ◌<◌, ◌≤◌, List, [], ◌∷◌, ◌++◌, length, get_or, take, drop, set, insert, remove, Some, None, refl, sym, ap, ◌∙◌, arith}
use Rattle.std.specs.List.{slice_range}
use Rattle.std.proofs.lemmas.List.{map-append, take-map, drop-map, length-drop, take-append-le, drop-append-le}
use Rattle.byte_map.specs.Sorted.{IsAt, IsGap, changed}
use Rattle.byte_map.proofs.Search.{changed_set, changed_insert, changed_remove}
use Rattle.page_map.specs.declared.slots.Slot.{Slot}
use Rattle.page_map.specs.inner.FlatPairs.{marked, encoded, IsWithin, AllWithin}
use Rattle.page_map.specs.Pages.{Stands}

pub within_at : (n : ℕ) (slots : List Slot) (i : ℕ) (d : Slot) → AllWithin n slots → i < length slots → IsWithin n (get_or slots i d)
within_at n [] i d h lt = absurd (omega (arith, lt))
within_at n (s ∷ slots) zero d h lt = h.0
within_at n (s ∷ slots) (suc i) d h lt = within_at n slots i d h.1 (omega (arith, lt))

wider : (n m : ℕ) (s : Slot) → n ≤ m → IsWithin n s → IsWithin m s
wider n m s le h = record { key = h.key; value = h.value; in_range = omega (arith, le, h.in_range) }

pub within_more : (n m : ℕ) (slots : List Slot) → n ≤ m → AllWithin n slots → AllWithin m slots
within_more n m [] le h = tt
within_more n m (s ∷ slots) le h = (wider n m s le h.0, within_more n m slots le h.1)

within_append : (n : ℕ) (xs ys : List Slot) → AllWithin n xs → AllWithin n ys → AllWithin n (xs ++ ys)
within_append n [] ys h t = t
within_append n (x ∷ xs) ys h t = (h.0, within_append n xs ys h.1 t)

within_take : (n i : ℕ) (xs : List Slot) → AllWithin n xs → AllWithin n (take i xs)
within_take n zero xs h = tt
within_take n (suc i) [] h = tt
within_take n (suc i) (x ∷ xs) h = (h.0, within_take n i xs h.1)

within_drop : (n i : ℕ) (xs : List Slot) → AllWithin n xs → AllWithin n (drop i xs)
within_drop n zero xs h = h
within_drop n (suc i) [] h = tt
within_drop n (suc i) (x ∷ xs) h = within_drop n i xs h.1

pub within_push : (n : ℕ) (xs : List Slot) (s : Slot) → AllWithin n xs → IsWithin n s → AllWithin n (xs ++ s ∷ [])
within_push n xs s h w = within_append n xs (s ∷ []) h (w, tt)

pub within_insert : (n i : ℕ) (xs : List Slot) (s : Slot) → AllWithin n xs → IsWithin n s → AllWithin n (insert xs i s)
within_insert n i xs s h w = within_append n (take i xs) (s ∷ drop i xs) (within_take n i xs h) (w, within_drop n i xs h)

pub within_remove : (n i : ℕ) (xs : List Slot) → AllWithin n xs → AllWithin n (remove xs i)
within_remove n i xs h = within_append n (take i xs) (drop (suc i) xs) (within_take n i xs h) (within_drop n (suc i) xs h)

pub within_set : (n i : ℕ) (xs : List Slot) (s : Slot) → AllWithin n xs → IsWithin n s → AllWithin n (set xs i s)
within_set n i [] s h w = tt
within_set n zero (x ∷ xs) s h w = (w, h.1)
within_set n (suc i) (x ∷ xs) s h w = (h.0, within_set n i xs s h.1 w)

-- the pair at a place
pub pair_here : (bytes : List ℕ) (slots : List Slot) (i : ℕ) (d : Slot) → i < length slots → Stands (encoded bytes slots) i (marked bytes (get_or slots i d))
pair_here bytes [] i d lt = absurd (omega (arith, lt))
pair_here bytes (s ∷ slots) zero d lt = refl
pair_here bytes (s ∷ slots) (suc i) d lt = pair_here bytes slots i d (omega (arith, lt))

-- bytes that are laid after are of no pair that was there
part_more : (bytes more : List ℕ) (a b : ℕ) → a ≤ b → b ≤ length bytes → slice_range (bytes ++ more) a b ≡ slice_range bytes a b
part_more bytes more a b ab le =
    ap (take (b - a)) (drop-append-le a bytes more (omega (arith, ab, le)))
    ∙ take-append-le (b - a) (drop a bytes) more (omega (arith, ab, le, length-drop a bytes))

pub encoded_more : (bytes more : List ℕ) (slots : List Slot) → AllWithin (length bytes) slots → encoded (bytes ++ more) slots ≡ encoded bytes slots
encoded_more bytes more [] h = refl
encoded_more bytes more (s ∷ slots) h = (λ i.
    (part_more bytes more s.start s.middle h.0.key (omega (arith, h.0.value, h.0.in_range)) i, part_more bytes more s.middle s.end h.0.value h.0.in_range i) ∷ encoded_more bytes more slots h.1 i)

-- edits
pub encoded_push : (bytes : List ℕ) (xs : List Slot) (s : Slot) → encoded bytes (xs ++ s ∷ []) ≡ encoded bytes xs ++ marked bytes s ∷ []
encoded_push bytes xs s = map-append (marked bytes) xs (s ∷ [])

pub encoded_set : (bytes : List ℕ) (xs : List Slot) (i : ℕ) (s : Slot) → encoded bytes (set xs i s) ≡ set (encoded bytes xs) i (marked bytes s)
encoded_set bytes [] i s = refl
encoded_set bytes (x ∷ xs) zero s = refl
encoded_set bytes (x ∷ xs) (suc i) s = ap (λ l. marked bytes x ∷ l) (encoded_set bytes xs i s)

pub encoded_insert : (bytes : List ℕ) (xs : List Slot) (i : ℕ) (s : Slot) → encoded bytes (insert xs i s) ≡ insert (encoded bytes xs) i (marked bytes s)
encoded_insert bytes xs i s =
    map-append (marked bytes) (take i xs) (s ∷ drop i xs)
    ∙ (λ j. sym (take-map (marked bytes) i xs) j ++ marked bytes s ∷ sym (drop-map (marked bytes) i xs) j)

pub encoded_remove : (bytes : List ℕ) (xs : List Slot) (i : ℕ) → encoded bytes (remove xs i) ≡ remove (encoded bytes xs) i
encoded_remove bytes xs i =
    map-append (marked bytes) (take i xs) (drop (suc i) xs)
    ∙ (λ j. sym (take-map (marked bytes) i xs) j ++ sym (drop-map (marked bytes) (suc i) xs) j)

-- they are the changes of the pairs
module _ (bytes more : List ℕ) (slots : List Slot) (within : AllWithin (length bytes) slots) (k : List ℕ) (at : ℕ) (slot : Slot) (v : List ℕ) (here : marked (bytes ++ more) slot ≡ (k, v)) where
  pub set_changes : IsAt (encoded bytes slots) k at → encoded (bytes ++ more) (set slots at slot) ≡ changed (encoded bytes slots) k (Some v)
  set_changes place =
      encoded_set (bytes ++ more) slots at slot
      ∙ (λ i. set (encoded_more bytes more slots within i) at (here i))
      ∙ changed_set (encoded bytes slots) k at place v

  pub insert_changes : IsGap (encoded bytes slots) k at → encoded (bytes ++ more) (insert slots at slot) ≡ changed (encoded bytes slots) k (Some v)
  insert_changes place =
      encoded_insert (bytes ++ more) slots at slot
      ∙ (λ i. insert (encoded_more bytes more slots within i) at (here i))
      ∙ changed_insert (encoded bytes slots) k at place v

pub remove_changes : (bytes : List ℕ) (slots : List Slot) (k : List ℕ) (at : ℕ) → IsAt (encoded bytes slots) k at → encoded bytes (remove slots at) ≡ changed (encoded bytes slots) k None
remove_changes bytes slots k at place = encoded_remove bytes slots at ∙ changed_remove (encoded bytes slots) k at place
