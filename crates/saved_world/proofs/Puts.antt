-- Pairs that are put into a store after all that are there.
use Rattle.std.proofs.Common.{◌≡◌, ◌-◌, ◌≤◌, [], ◌∷◌, ◌++◌, length, get_or, T, Some, refl, sym, ap, subst, ◌∙◌, arith}
use Rattle.std.proofs.lemmas.List.{append-nil, append_assoc}
use Rattle.std.specs.Ordering.{is_lt}
use Rattle.std.specs.FinMap as map
use Rattle.std.specs.FinMap.Entries.{put, below_all}
use Rattle.byte_map.specs.Order.{bytes_cmp}
use Rattle.byte_map.specs.Sorted.{Entries, IsSorted, all_below}
use Rattle.byte_map.specs.Writes.{written_all, noted, laid}
use Rattle.byte_map.proofs.Order.{bytes_cmp_total, bytes_cmp-IsAntisymmetric, to_less, both, first, second}
use Rattle.byte_map.proofs.Entries.{below_from, put_gap}
use Rattle.byte_map.proofs.Maps.{empty_map}
use Rattle.byte_map.proofs.Written.{laid-noted}
use Rattle.row_map.specs.Rows.{Bytes, Pairs}
use Rattle.saved_world.specs.Follows.{last_or, last_key, follows}
use Rattle.saved_world.specs.inner.Puts.{puts}

-- ---- lists whose keys rise on

module _ {X : Type 0} where
  below_in : (k : Bytes) (xs : Entries X) (p : Bytes × X) (ps : Entries X) → T (below_all bytes_cmp k (xs ++ p ∷ ps)) → T (is_lt (bytes_cmp k p.0))
  below_in k [] p ps b = first _ _ b
  below_in k (x ∷ xs) p ps b = below_in k xs p ps (second _ _ b)

  all_below_next : (xs : Entries X) (p : Bytes × X) (ps : Entries X) → IsSorted (xs ++ p ∷ ps) → T (all_below xs p.0)
  all_below_next [] p ps s = tt
  all_below_next (x ∷ xs) p ps s = both _ _ (below_in x.0 xs p ps (first _ _ s)) (all_below_next xs p ps (second _ _ s))

  append_from : (k : Bytes) (xs ys : Entries X) → T (below_all bytes_cmp k xs) → IsSorted xs → IsSorted ys → T (follows (Some (last_or k xs)) ys) → T (below_all bytes_cmp k (xs ++ ys)) × IsSorted (xs ++ ys)
  append_from k [] [] below sorted later on = (tt, tt)
  append_from k [] (y ∷ ys) below sorted later on = (both _ _ on (below_from k y.0 ys (to_less _ on) (first _ _ later)), later)
  append_from k (x ∷ xs) ys below sorted later on =
      let rest = append_from x.0 xs ys (first _ _ sorted) (second _ _ sorted) later on in
      (both _ _ (first _ _ below) (below_from k x.0 (xs ++ ys) (to_less _ (first _ _ below)) rest.0), both _ _ rest.0 rest.1)

  pub append_sorted : (xs ys : Entries X) → IsSorted xs → IsSorted ys → T (follows (last_key xs) ys) → IsSorted (xs ++ ys)
  append_sorted [] ys sorted later on = later
  append_sorted (x ∷ xs) ys sorted later on = (let r = append_from x.0 xs ys (first _ _ sorted) (second _ _ sorted) later on in both _ _ r.0 r.1)

  follow_from : (k : Bytes) (xs ys : Entries X) → T (below_all bytes_cmp k (xs ++ ys)) → IsSorted (xs ++ ys) → T (follows (Some (last_or k xs)) ys)
  follow_from k [] [] below sorted = tt
  follow_from k [] (y ∷ ys) below sorted = first _ _ below
  follow_from k (x ∷ xs) ys below sorted = follow_from x.0 xs ys (first _ _ sorted) (second _ _ sorted)

  pub sorted_follows : (xs ys : Entries X) → IsSorted (xs ++ ys) → T (follows (last_key xs) ys)
  sorted_follows [] ys sorted = tt
  sorted_follows (x ∷ xs) ys sorted = follow_from x.0 xs ys (first _ _ sorted) (second _ _ sorted)

  pub sorted_later : (xs ys : Entries X) → IsSorted (xs ++ ys) → IsSorted ys
  sorted_later [] ys sorted = sorted
  sorted_later (x ∷ xs) ys sorted = sorted_later xs ys (second _ _ sorted)

  -- the last key of the whole
  last_or_append : (k : Bytes) (xs : Entries X) (y : Bytes × X) (ys : Entries X) → last_or k (xs ++ y ∷ ys) ≡ last_or y.0 ys
  last_or_append k [] y ys = refl
  last_or_append k (x ∷ xs) y ys = last_or_append x.0 xs y ys

  pub last_append : (xs : Entries X) (y : Bytes × X) (ys : Entries X) → last_key (xs ++ y ∷ ys) ≡ last_key (y ∷ ys)
  last_append [] y ys = refl
  last_append (x ∷ xs) y ys = ap Some (last_or_append x.0 xs y ys)

  -- by its place
  last_from : (p : Bytes × X) (ps : Entries X) (d : Bytes × X) → (get_or (p ∷ ps) (length ps) d).0 ≡ last_or p.0 ps
  last_from p [] d = refl
  last_from p (q ∷ ps) d = last_from q ps d

  pub last_at : (page : Entries X) (d : Bytes × X) → 1 ≤ length page → Some (get_or page (length page - 1) d).0 ≡ last_key page
  last_at [] d some = absurd (omega (arith, some))
  last_at (p ∷ ps) d some =
      let before : length (p ∷ ps) - 1 ≡ length ps = omega arith in
      ap (λ n. Some (get_or (p ∷ ps) n d).0) before ∙ ap Some (last_from p ps d)

-- ---- puts

put_last : (m : Pairs) (p : Bytes × Bytes) (ps : Entries Bytes) → IsSorted (map.entries m ++ p ∷ ps) → map.entries (map.insert m p.0 p.1) ≡ map.entries m ++ p ∷ []
put_last m p ps sorted =
    map.entries-insert bytes_cmp_total m p.0 p.1
    ∙ ap (put bytes_cmp p.0 p.1) (sym (append-nil (map.entries m)))
    ∙ put_gap (map.entries m) [] p.0 p.1 (all_below_next (map.entries m) p ps sorted) tt

-- pairs whose keys rise on are put after all others
pub entries_put : (m : Pairs) (ps : Entries Bytes) → IsSorted (map.entries m ++ ps) → map.entries (written_all m (puts ps)) ≡ map.entries m ++ ps
entries_put m [] sorted = sym (append-nil (map.entries m))
entries_put m (p ∷ ps) sorted =
    let here = put_last m p ps sorted in
    let whole : map.entries (map.insert m p.0 p.1) ++ ps ≡ map.entries m ++ p ∷ ps = ap (λ (l : Entries Bytes). l ++ ps) here ∙ append_assoc (map.entries m) (p ∷ []) ps in
    entries_put (map.insert m p.0 p.1) ps (subst IsSorted (sym whole) sorted) ∙ whole

pub laid_puts : (m : Pairs) (ps : Entries Bytes) → laid (noted map.empty (puts ps)) m ≡ written_all m (puts ps)
laid_puts m ps = laid-noted bytes_cmp_total bytes_cmp-IsAntisymmetric (puts ps) m

pub entries_empty : map.entries {R = bytes_cmp} (map.empty {X = Bytes}) ≡ []
entries_empty = ap (λ (m : Pairs). map.entries m) (sym empty_map) ∙ map.entries-from_sorted bytes_cmp [] tt
