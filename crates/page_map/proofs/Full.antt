-- Lists of parts of which none is empty.
use Rattle.std.proofs.Common.{◌≡◌, not, insert, remove, ℕ, zero, suc, ◌+◌, ◌-◌, ◌<◌, ◌≤◌, T, List, [], ◌∷◌, ◌++◌, length, get_or, take, drop, set, refl, sym, ap, subst, ◌∙◌, arith, append-nil, append_assoc}
use Rattle.std.proofs.lemmas.List.{length-append, take_more_set, drop-set-lt, take_more, take_at, length-take-le}
use Rattle.std.specs.FinMap.Entries.{below_all}
use Rattle.std.specs.Ordering.{is_lt}
use Rattle.byte_map.specs.Order.{bytes_cmp}
use Rattle.byte_map.specs.Sorted.{Entries, IsFirstFrom, none_below}
use Rattle.byte_map.proofs.Order.{to_less, first}
use Rattle.byte_map.proofs.Ranges.{not_less, none_below_all}
use Rattle.page_map.specs.inner.Prefix.{IsPrefix, HasPrefix}
use Rattle.page_map.specs.Pages.{joined, AllFull, Stands, IsRestFrom, IsCountUpTo}
use Rattle.page_map.proofs.Cuts.{begins_at, around, joined_append, cut_joined, from_last, all_below_append, none_below_append}

next : (at : ℕ) → suc at ≡ at + 1
next at = omega arith

module _ {X : Type 0} where
  pub first_of_full : (part : Entries X) → 0 < length part → (first : List ℕ × X) × Stands part 0 first
  first_of_full [] some = absurd (omega (arith, some))
  first_of_full (e ∷ es) some = (e, refl)

  pub full_at : (ps : List (Entries X)) (i : ℕ) (d : Entries X) → AllFull ps → i < length ps → 0 < length (get_or ps i d)
  full_at [] i d h lt = absurd (omega (arith, lt))
  full_at (p ∷ ps) zero d h lt = h.0
  full_at (p ∷ ps) (suc i) d h lt = full_at ps i d h.1 (omega (arith, lt))

  pub full_drop : (ps : List (Entries X)) (i : ℕ) → AllFull ps → AllFull (drop i ps)
  full_drop ps zero h = h
  full_drop [] (suc i) h = tt
  full_drop (p ∷ ps) (suc i) h = full_drop ps i h.1

  pub full_take : (ps : List (Entries X)) (i : ℕ) → AllFull ps → AllFull (take i ps)
  full_take ps zero h = tt
  full_take [] (suc i) h = tt
  full_take (p ∷ ps) (suc i) h = (h.0, full_take ps i h.1)

  pub full_append : (ps qs : List (Entries X)) → AllFull ps → AllFull qs → AllFull (ps ++ qs)
  full_append [] qs h t = t
  full_append (p ∷ ps) qs h t = (h.0, full_append ps qs h.1 t)

  pub full_set : (ps : List (Entries X)) (i : ℕ) (p : Entries X) → AllFull ps → 0 < length p → AllFull (set ps i p)
  full_set [] i p h some = tt
  full_set (q ∷ ps) zero p h some = (some, h.1)
  full_set (q ∷ ps) (suc i) p h some = (h.0, full_set ps i p h.1 some)

  -- parts that have no entry are none
  pub none_full : (ps : List (Entries X)) → AllFull ps → joined ps ≡ [] → ps ≡ []
  none_full [] h is = refl
  none_full (p ∷ ps) h is = absurd (omega (arith, h.0, length-append p (joined ps), ap length is))

  -- the first of the writes stands before a part that begins above it
  pub some_before : (ps : List (Entries X)) (i : ℕ) (part : Entries X) (e : List ℕ × X) {Y : Type 0} (ws : Entries Y) (n : ℕ) → i < length ps → part ≡ get_or ps i part → Stands part 0 e → IsFirstFrom ws e.0 n → (w : List ℕ × Y) → Stands ws 0 w → T (below_all bytes_cmp w.0 (joined (drop i ps))) → 0 < n
  some_before ps i part e ws zero lt is here from w stands below =
      absurd (not_less (bytes_cmp w.0 e.0) (first (not (is_lt (bytes_cmp w.0 e.0))) (none_below (drop 1 ws) e.0) (subst (λ l. T (none_below l e.0)) stands from.after)) (to_less (bytes_cmp w.0 e.0) (first (is_lt (bytes_cmp w.0 e.0)) (below_all bytes_cmp w.0 (drop 1 part ++ joined (drop (i + 1) ps))) (subst (λ (l : Entries X). T (below_all bytes_cmp w.0 l)) (begins_at ps i part e lt is here) below))))
  some_before ps i part e ws (suc n) lt is here from w stands below = omega arith

  pub some_parts : (ps : List (Entries X)) → 0 < length (joined ps) → 0 < length ps
  some_parts [] some = some
  some_parts (p ∷ ps) some = omega arith

  pub some_joined : (ps : List (Entries X)) (d : Entries X) → 0 < length ps → 0 < length (get_or ps 0 d) → 0 < length (joined ps)
  some_joined [] d some h = some
  some_joined (p ∷ ps) d some h = omega (arith, h, length-append p (joined ps))

  -- a part is cut in two
  pub joined_cut : (ps : List (Entries X)) (at : ℕ) (p q d : Entries X) → at < length ps → get_or ps at d ≡ p ++ q → joined (insert (set ps at p) (at + 1) q) ≡ joined ps
  joined_cut ps at p q d lt is =
      let tail : Entries X = joined (drop (at + 1) ps) in
      joined_append (take (at + 1) (set ps at p)) (q ∷ drop (at + 1) (set ps at p))
      ∙ (λ i. joined (take_more_set ps at p lt i) ++ (q ++ joined (drop-set-lt (at + 1) ps at p (omega arith) i)))
      ∙ ap (λ (l : Entries X). l ++ (q ++ tail)) (joined_append (take at ps) (p ∷ []) ∙ ap (λ (l : Entries X). joined (take at ps) ++ l) (append-nil p))
      ∙ append_assoc (joined (take at ps)) p (q ++ tail)
      ∙ ap (λ (l : Entries X). joined (take at ps) ++ l) (sym (append_assoc p q tail) ∙ ap (λ (l : Entries X). l ++ tail) (sym is))
      ∙ sym (around ps at d lt)

  pub full_cut : (ps : List (Entries X)) (at : ℕ) (p q : Entries X) → AllFull ps → 0 < length p → 0 < length q → AllFull (insert (set ps at p) (at + 1) q)
  full_cut ps at p q h some more =
      let all : AllFull (set ps at p) = full_set ps at p h some in
      full_append (take (at + 1) (set ps at p)) (q ∷ drop (at + 1) (set ps at p)) (full_take (set ps at p) (at + 1) all) (more, full_drop (set ps at p) (at + 1) all)

  -- an empty part goes
  pub joined_remove : (ps : List (Entries X)) (at : ℕ) (d : Entries X) → at < length ps → get_or ps at d ≡ [] → joined (remove ps at) ≡ joined ps
  joined_remove ps at d lt is =
      joined_append (take at ps) (drop (suc at) ps)
      ∙ ap (λ (n : ℕ). joined (take at ps) ++ joined (drop n ps)) (next at)
      ∙ ap (λ (l : Entries X). joined (take at ps) ++ (l ++ joined (drop (at + 1) ps))) (sym is)
      ∙ sym (around ps at d lt)

  pub taken_remove : (ps : List (Entries X)) (at : ℕ) → at ≤ length ps → take at (remove ps at) ≡ take at ps
  taken_remove ps at le = take_at (take at ps) (drop (suc at) ps) at (length-take-le at ps le)

  pub full_more : (ps : List (Entries X)) (at : ℕ) (d : Entries X) → at < length ps → AllFull (take at ps) → 0 < length (get_or ps at d) → AllFull (take (at + 1) ps)
  full_more ps at d lt h some = subst AllFull (sym (take_more ps at d lt)) (full_append (take at ps) (get_or ps at d ∷ []) h (some, tt))

  -- the pairs from a key on, of one part and of those after it
  pub rest_among : (ps : List (Entries X)) (count : ℕ) (part : Entries X) (key : List ℕ) (rest : Entries X) (behind : List (Entries X)) (all : Entries X) → ¬ (count ≡ 0) → IsCountUpTo ps key count → part ≡ get_or ps (count - 1) part → IsRestFrom part key rest → behind ≡ drop count ps → all ≡ rest ++ joined behind → IsRestFrom (joined ps) key all
  rest_among ps count part key rest behind all some h is from cut are =
      let tail : Entries X = joined (drop count ps) in
      let prefix : Entries X = joined (take (count - 1) ps) in
      subst (IsRestFrom (joined ps) key) (sym (are ∙ ap (λ (l : List (Entries X)). rest ++ joined l) cut)) (record {
        prefix = prefix ++ from.prefix;
        whole =
            cut_joined ps (count - 1)
            ∙ ap (λ (l : Entries X). prefix ++ l) (from_last ps count part some h.in_range is ∙ ap (λ (l : Entries X). l ++ tail) from.whole ∙ append_assoc from.prefix rest tail)
            ∙ sym (append_assoc prefix from.prefix (rest ++ tail));
        before = all_below_append prefix from.prefix key h.before from.before;
        after = none_below_append rest tail key from.after (none_below_all tail key h.after);
      })

  pub none_joined : (ps : List (Entries X)) → length ps ≡ 0 → joined ps ≡ []
  none_joined [] is = refl
  none_joined (p ∷ ps) is = absurd (omega (arith, is))

  -- parts begin as their first one does
  pub has_prefix : (ps : List (Entries X)) (page : Entries X) (prefix : ℕ × ℕ × ℕ) → page ≡ get_or ps 0 page → 0 < length page → HasPrefix page prefix → HasPrefix (joined ps) prefix
  has_prefix [] page prefix is some h = λ first stands. absurd (omega (arith, ap length stands))
  has_prefix (p ∷ ps) page prefix is some h = λ first stands.
      let e = first_of_full page some in
      let same : e.0 ≡ first = ap (λ (l : Entries X). get_or l 0 first) (ap (λ (q : Entries X). q ++ joined ps) (sym e.1 ∙ is) ∙ stands) in
      subst (λ (p : List ℕ × X). IsPrefix prefix p.0) same (h e.0 e.1)
