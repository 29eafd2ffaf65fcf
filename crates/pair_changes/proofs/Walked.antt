-- The changes between two lists of pairs by rising key are those between the two maps.
use Rattle.std.specs.Prelude.{◌≡◌, ◌≢◌, ◌⊎◌, ◌↔◌, Bool, true, false, cond, not, T, List, [], ◌∷◌, ◌++◌, Option, Some, None, All, AllPairs, Contains, refl}
use Rattle.std.proofs.Common.{sym, ap, subst, ◌∙◌, arith, inl, inr, true≢false}
use Rattle.std.specs.declared.cmp.Ordering.TheVariants.{Less, Equal, Greater}
use Rattle.std.specs.Ordering.{is_lt, is_eq}
use Rattle.std.specs.Cmp.{Equal-is}
use Rattle.std.specs.FinMap as map
use Rattle.std.specs.FinMap.{find, is_sorted}
use Rattle.std.specs.FinMap.Entries.{by_order, below_all}
use Rattle.std.proofs.lemmas.List.Elements.{All-weaker, All-contains_itself, Contains-append_left, Contains-append_right, Contains-append_cases, Contains-push, Contains-push_cases}
use Rattle.std.proofs.lemmas.List.Kept.{AllPairs-cons}
use Rattle.byte_map.specs.Order.{bytes_cmp}
use Rattle.byte_map.proofs.Order.{bytes_cmp_total, bytes_cmp-IsAntisymmetric, same_itself, less_from_greater, less_trans, from_less, to_less, both, first, second}
use Rattle.byte_map.proofs.Written.{tied, apart, same_or_apart}
use Rattle.row_map.specs.Rows.{Bytes, Pairs}
use Rattle.pair_changes.specs.declared.changes.PairChange.{PairChange}
use Rattle.pair_changes.specs.Changes.{AreChanges}
use Rattle.pair_changes.specs.inner.Differ.{are_other, change_at}
use Rattle.pair_changes.specs.inner.Walked.{Entries, walked}
use Rattle.pair_changes.proofs.Steps.{walked_end, walked_before, walked_after, walked_both}

-- ---- what is found in a list by rising key

abbrev at : Bytes → Entries → Option Bytes
at q es = find bytes_cmp q es

abbrev Above : Bytes → Entries → Type 0
Above k es = T (below_all bytes_cmp k es)

abbrev Rise : Entries → Type 0
Rise es = T (is_sorted bytes_cmp es)

found_head : (k v : Bytes) (es : Entries) → at k ((k, v) ∷ es) ≡ Some v
found_head k v es = ap (λ t. cond t (Some v) (at k es)) (tied bytes_cmp_total bytes_cmp-IsAntisymmetric k)

found_apart : (q k v : Bytes) (es : Entries) → q ≢ k → at q ((k, v) ∷ es) ≡ at q es
found_apart q k v es ne = ap (λ t. cond t (Some v) (at q es)) (apart bytes_cmp_total bytes_cmp-IsAntisymmetric q k ne)

-- what is found in a list above a key is of a key above it
found_above : (k q : Bytes) (es : Entries) (v : Bytes) → Above k es → at q es ≡ Some v → bytes_cmp k q ≡ Less
found_above k q [] v h is = absurd cc
found_above k q (e ∷ es) v h is =
    elim (same_or_apart bytes_cmp_total bytes_cmp-IsAntisymmetric q e.0) [
      | inl s ↦ ap (λ x. bytes_cmp k x) s ∙ to_less (bytes_cmp k e.0) (first (is_lt (bytes_cmp k e.0)) (below_all bytes_cmp k es) h)
      | inr ne ↦ found_above k q es v (second (is_lt (bytes_cmp k e.0)) (below_all bytes_cmp k es) h) (sym (found_apart q e.0 e.1 es ne) ∙ is)
    ]

not_less : (k : Bytes) → bytes_cmp k k ≡ Less → ⊥
not_less k e = let h : bytes_cmp k k ≡ Equal = same_itself k in absurd cc

none_here : (k : Bytes) (es : Entries) → Above k es → at k es ≡ None
none_here k es h = elim (at k es) as (λ o. at k es ≡ o → o ≡ None) [
  | None ↦ λ e. refl
  | Some v ↦ λ e. absurd (not_less k (found_above k k es v h e))
] refl

above_less : (k j : Bytes) (es : Entries) → bytes_cmp k j ≡ Less → Above j es → Above k es
above_less k j [] p h = tt
above_less k j (e ∷ es) p h =
    let a = to_less (bytes_cmp j e.0) (first (is_lt (bytes_cmp j e.0)) (below_all bytes_cmp j es) h) in
    both (is_lt (bytes_cmp k e.0)) (below_all bytes_cmp k es) (from_less (bytes_cmp k e.0) (less_trans k j e.0 p a)) (above_less k j es p (second (is_lt (bytes_cmp j e.0)) (below_all bytes_cmp j es) h))

-- the list has this at its least key, or lacks the key, and the rest is above it
record Splits (k : Bytes) (o : Option Bytes) (es rest : Entries) : Type 0 where
  here : at k es ≡ o
  others : (q : Bytes) → q ≢ k → at q es ≡ at q rest
  above : Above k rest

splits_head : (k v : Bytes) (es : Entries) → Rise ((k, v) ∷ es) → Splits k (Some v) ((k, v) ∷ es) es
splits_head k v es h = record {
  here = found_head k v es;
  others = λ q ne. found_apart q k v es ne;
  above = first (below_all bytes_cmp k es) (is_sorted bytes_cmp es) h;
}

splits_none : (k : Bytes) (es : Entries) → Above k es → Splits k None es es
splits_none k es h = record {
  here = none_here k es h;
  others = λ q ne. refl;
  above = h;
}

rise_rest : (e : Bytes × Bytes) (es : Entries) → Rise (e ∷ es) → Rise es
rise_rest e es h = second (below_all bytes_cmp e.0 es) (is_sorted bytes_cmp es) h

above_first : (k : Bytes) (f : Bytes × Bytes) (fs : Entries) → bytes_cmp k f.0 ≡ Less → Rise (f ∷ fs) → Above k (f ∷ fs)
above_first k f fs p h = both (is_lt (bytes_cmp k f.0)) (below_all bytes_cmp k fs) (from_less (bytes_cmp k f.0) p) (above_less k f.0 fs p (first (below_all bytes_cmp f.0 fs) (is_sorted bytes_cmp fs) h))

-- ---- changes between lists

record IsIn (es fs : Entries) (change : PairChange) : Type 0 where
  differ : at change.key es ≢ at change.key fs
  old_value : change.before ≡ at change.key es
  new_value : change.after ≡ at change.key fs

abbrev Rises : PairChange → PairChange → Type 0
Rises one other = bytes_cmp one.key other.key ≡ Less

record AreIn (es fs : Entries) (changes : List PairChange) : Type 0 where
  exact : (change : PairChange) → Contains changes change ↔ IsIn es fs change
  rising : AllPairs Rises changes

contains_none : (c : PairChange) → Contains [] c → ⊥
contains_none c h = omega (arith, h.1)

none_in : AreIn [] [] []
none_in = record {
  exact = λ c. (λ h. absurd (contains_none c h), λ (i : IsIn [] [] c). absurd (i.differ refl));
  rising = λ i j d lt within. absurd (omega arith);
}

contains_head : (c : PairChange) (cs : List PairChange) → Contains (c ∷ cs) c
contains_head c cs = Contains-append_left (c ∷ []) cs c (Contains-push [] c)

contains_tail : (c d : PairChange) (cs : List PairChange) → Contains cs d → Contains (c ∷ cs) d
contains_tail c d cs h = Contains-append_right (c ∷ []) cs d h

contains_cases : (c d : PairChange) (cs : List PairChange) → Contains (c ∷ cs) d → (d ≡ c) ⊎ Contains cs d
contains_cases c d cs h = elim (Contains-append_cases (c ∷ []) cs d h) [
  | inl one ↦ elim (Contains-push_cases [] c d one) [ inl none ↦ absurd (contains_none d none) | inr e ↦ inl (sym e) ]
  | inr more ↦ inr more
]

each_in : (P : PairChange → Type 0) (cs : List PairChange) → ((c : PairChange) → Contains cs c → P c) → All P cs
each_in P cs f = All-weaker (Contains cs) P f cs (All-contains_itself cs)

both_none : (o n : Option Bytes) → o ≡ None → n ≡ None → o ≢ n → ⊥
both_none o n p q ne = ne (p ∙ sym q)

-- a change between the rests is of a key above the least
in_above : (k : Bytes) (es fs : Entries) → Above k es → Above k fs → (c : PairChange) → IsIn es fs c → bytes_cmp k c.key ≡ Less
in_above k es fs a b c i = elim (at c.key es) as (λ o. at c.key es ≡ o → bytes_cmp k c.key ≡ Less) [
  | Some v ↦ λ e. found_above k c.key es v a e
  | None ↦ λ e. elim (at c.key fs) as (λ n. at c.key fs ≡ n → bytes_cmp k c.key ≡ Less) [
    | Some w ↦ λ f. found_above k c.key fs w b f
    | None ↦ λ f. absurd (both_none _ _ e f i.differ)
  ] refl
] refl

in_apart : (k : Bytes) (es fs : Entries) → Above k es → Above k fs → (c : PairChange) → IsIn es fs c → c.key ≢ k
in_apart k es fs a b c i same = not_less k (ap (λ x. bytes_cmp k x) (sym same) ∙ in_above k es fs a b c i)

module _ (k : Bytes) (o n : Option Bytes) (es fs es' fs' : Entries) (a : Splits k o es es') (b : Splits k n fs fs') where
  made : PairChange
  made = record { key = k; before = o; after = n }

  wider : (c : PairChange) → IsIn es' fs' c → IsIn es fs c
  wider c i =
      let ne = in_apart k es' fs' a.above b.above c i in
      let p : at c.key es ≡ at c.key es' = a.others c.key ne in
      let q : at c.key fs ≡ at c.key fs' = b.others c.key ne in
      record {
        differ = λ e. i.differ (sym p ∙ e ∙ q);
        old_value = i.old_value ∙ sym p;
        new_value = i.new_value ∙ sym q;
      }

  narrower : (c : PairChange) → c.key ≢ k → IsIn es fs c → IsIn es' fs' c
  narrower c ne i =
      let p : at c.key es ≡ at c.key es' = a.others c.key ne in
      let q : at c.key fs ≡ at c.key fs' = b.others c.key ne in
      record {
        differ = λ e. i.differ (p ∙ e ∙ sym q);
        old_value = i.old_value ∙ p;
        new_value = i.new_value ∙ q;
      }

  made_in : o ≢ n → IsIn es fs (record { key = k; before = o; after = n })
  made_in ne = record {
    differ = λ e. ne (sym a.here ∙ e ∙ b.here);
    old_value = sym a.here;
    new_value = sym b.here;
  }

  is_made : (c : PairChange) → c.key ≡ k → IsIn es fs c → c ≡ record { key = k; before = o; after = n }
  is_made c e i =
      let p : c.before ≡ o = i.old_value ∙ ap (λ q. at q es) e ∙ a.here in
      let q : c.after ≡ n = i.new_value ∙ ap (λ q. at q fs) e ∙ b.here in
      λ j. record { key = e j; before = p j; after = q j }

  changed : (cs : List PairChange) → o ≢ n → AreIn es' fs' cs → AreIn es fs (record { key = k; before = o; after = n } ∷ cs)
  changed cs ne h =
      let c0 : PairChange = record { key = k; before = o; after = n } in
      record {
        exact = λ c. (
          λ within. elim (contains_cases c0 c cs within) [
            | inl e ↦ subst (λ x. IsIn es fs x) (sym e) (made_in ne)
            | inr more ↦ wider c ((h.exact c).0 more)
          ],
          λ i. elim (same_or_apart bytes_cmp_total bytes_cmp-IsAntisymmetric c.key k) [
            | inl e ↦ subst (λ x. Contains (c0 ∷ cs) x) (sym (is_made c e i)) (contains_head c0 cs)
            | inr other ↦ contains_tail c0 c cs ((h.exact c).1 (narrower c other i))
          ],
        );
        rising = AllPairs-cons Rises c0 cs (each_in (Rises c0) cs (λ c within. in_above k es' fs' a.above b.above c ((h.exact c).0 within))) h.rising;
      }

  unchanged : (cs : List PairChange) → o ≡ n → AreIn es' fs' cs → AreIn es fs cs
  unchanged cs same h = record {
    exact = λ c. (
      λ within. wider c ((h.exact c).0 within),
      λ i. elim (same_or_apart bytes_cmp_total bytes_cmp-IsAntisymmetric c.key k) [
        | inl e ↦ absurd (i.differ (ap (λ q. at q es) e ∙ a.here ∙ same ∙ sym b.here ∙ ap (λ q. at q fs) (sym e)))
        | inr other ↦ (h.exact c).1 (narrower c other i)
      ],
    );
    rising = h.rising;
  }

-- whether values differ
same_values : (o n : Option Bytes) → are_other o n ≡ false → o ≡ n
same_values None None e = refl
same_values None (Some w) e = absurd (true≢false e)
same_values (Some v) None e = absurd (true≢false e)
same_values (Some v) (Some w) e = ap (λ x. Some x) (bytes_cmp-IsAntisymmetric v w ((Equal-is (bytes_cmp v w)).0 (turned (is_eq (bytes_cmp v w)) e)))
  where
    turned : (b : Bool) → not b ≡ false → b ≡ true
    turned true e = refl
    turned false e = absurd (true≢false e)

other_itself : (o : Option Bytes) → are_other o o ≡ false
other_itself None = refl
other_itself (Some v) = ap (λ t. not (is_eq t)) (same_itself v)

other_values : (o n : Option Bytes) → are_other o n ≡ true → o ≢ n
other_values o n e same = true≢false (sym e ∙ ap (λ x. are_other o x) (sym same) ∙ other_itself o)

goes_on : (k : Bytes) (o n : Option Bytes) (es fs es' fs' : Entries) → Splits k o es es' → Splits k n fs fs' → (cs : List PairChange) → AreIn es' fs' cs → AreIn es fs (change_at k o n ++ cs)
goes_on k o n es fs es' fs' a b cs h =
    elim (are_other o n) as (λ t. are_other o n ≡ t → AreIn es fs (cond t (record { key = k; before = o; after = n } ∷ []) [] ++ cs)) [
      | true ↦ λ e. changed k o n es fs es' fs' a b cs (other_values o n e) h
      | false ↦ λ e. unchanged k o n es fs es' fs' a b cs (same_values o n e) h
    ] refl

-- ---- the walk

along : (es fs : Entries) (cs ds : List PairChange) → cs ≡ ds → AreIn es fs ds → AreIn es fs cs
along es fs cs ds e h = subst (λ xs. AreIn es fs xs) (sym e) h

walked_added : (fs : Entries) → Rise fs → AreIn [] fs (walked [] fs)
walked_added [] h = along [] [] (walked [] []) [] walked_end none_in
walked_added (f ∷ fs) h =
    along [] (f ∷ fs) _ _ (walked_after f fs)
    (goes_on f.0 None (Some f.1) [] (f ∷ fs) [] fs (splits_none f.0 [] tt) (splits_head f.0 f.1 fs h) (walked [] fs) (walked_added fs (rise_rest f fs h)))

walked_against : (e : Bytes × Bytes) (es : Entries) → Rise (e ∷ es) → ((fs : Entries) → Rise fs → AreIn es fs (walked es fs)) → (fs : Entries) → Rise fs → AreIn (e ∷ es) fs (walked (e ∷ es) fs)
walked_against e es g ih [] h =
    along (e ∷ es) [] _ _ (walked_before e es)
    (goes_on e.0 (Some e.1) None (e ∷ es) [] es [] (splits_head e.0 e.1 es g) (splits_none e.0 [] tt) (walked es []) (ih [] tt))
walked_against e es g ih (f ∷ fs) h =
    along (e ∷ es) (f ∷ fs) _ _ (walked_both e f es fs)
    (elim (bytes_cmp e.0 f.0) as (λ r. bytes_cmp e.0 f.0 ≡ r → AreIn (e ∷ es) (f ∷ fs) (by_order r (change_at e.0 (Some e.1) None ++ walked es (f ∷ fs)) (change_at e.0 (Some e.1) (Some f.1) ++ walked es fs) (change_at f.0 None (Some f.1) ++ walked (e ∷ es) fs))) [
      | Less ↦ λ p. goes_on e.0 (Some e.1) None (e ∷ es) (f ∷ fs) es (f ∷ fs) (splits_head e.0 e.1 es g) (splits_none e.0 (f ∷ fs) (above_first e.0 f fs p h)) (walked es (f ∷ fs)) (ih (f ∷ fs) h)
      | Equal ↦ λ p. goes_on e.0 (Some e.1) (Some f.1) (e ∷ es) (f ∷ fs) es fs (splits_head e.0 e.1 es g) (subst (λ k. Splits k (Some f.1) (f ∷ fs) fs) (sym (bytes_cmp-IsAntisymmetric e.0 f.0 p)) (splits_head f.0 f.1 fs h)) (walked es fs) (ih fs (rise_rest f fs h))
      | Greater ↦ λ p. goes_on f.0 None (Some f.1) (e ∷ es) (f ∷ fs) (e ∷ es) fs (splits_none f.0 (e ∷ es) (above_first f.0 e es (less_from_greater e.0 f.0 p) g)) (splits_head f.0 f.1 fs h) (walked (e ∷ es) fs) (walked_against e es g ih fs (rise_rest f fs h))
    ] refl)

walked_in : (es fs : Entries) → Rise es → Rise fs → AreIn es fs (walked es fs)
walked_in [] fs g h = walked_added fs h
walked_in (e ∷ es) fs g h = walked_against e es g (λ xs rise. walked_in es xs (rise_rest e es g) rise) fs h

-- the changes between the entries of two maps are those between the maps
pub walked_changes : (before after : Pairs) → AreChanges before after (walked (map.entries before) (map.entries after))
walked_changes before after =
    let h = walked_in (map.entries before) (map.entries after) (map.entries_sorted before) (map.entries_sorted after) in
    record {
      exact = λ c.
          let p : map.get before c.key ≡ at c.key (map.entries before) = map.get-entries before c.key in
          let q : map.get after c.key ≡ at c.key (map.entries after) = map.get-entries after c.key in (
            λ within.
                let i = (h.exact c).0 within in
                record {
                  differ = λ e. i.differ (sym p ∙ e ∙ q);
                  old_value = i.old_value ∙ sym p;
                  new_value = i.new_value ∙ sym q;
                },
            λ i. (h.exact c).1 (record {
              differ = λ e. i.differ (p ∙ e ∙ sym q);
              old_value = i.old_value ∙ p;
              new_value = i.new_value ∙ q;
            }),
          );
      rising = h.rising;
    }

pub these_changes : (before after : Pairs) (changes : List PairChange) → changes ≡ walked (map.entries before) (map.entries after) → AreChanges before after changes
these_changes before after changes e = subst (λ xs. AreChanges before after xs) (sym e) (walked_changes before after)
