-- How the changes between two lists of pairs go on, by what each begins with.
use Rattle.std.specs.Prelude.{◌≡◌, ℕ, suc, ◌+◌, List, [], ◌∷◌, ◌++◌, length, Some, None, refl}
use Rattle.std.proofs.Common.{sym, ap, ◌∙◌, arith, append_assoc, append-nil}
use Rattle.std.specs.declared.cmp.Ordering.{Ordering}
use Rattle.std.specs.declared.cmp.Ordering.TheVariants.{Less, Equal, Greater}
use Rattle.std.specs.FinMap.Entries.{by_order}
use Rattle.byte_map.specs.Order.{bytes_cmp}
use Rattle.row_map.specs.Rows.{Bytes}
use Rattle.pair_changes.specs.declared.changes.PairChange.{PairChange}
use Rattle.pair_changes.specs.declared.changes.Found.{Found}
use Rattle.pair_changes.specs.inner.Ahead.{IsFirst, rest_of}
use Rattle.pair_changes.specs.inner.Differ.{change_at, change_of}
use Rattle.pair_changes.specs.inner.Walked.{Entries, added, against, walked, IsStep, IsEnd}

pub walked_end : IsEnd [] []
unfolding walked added
walked_end = refl

pub walked_before : (e : Bytes × Bytes) (es : Entries) → walked (e ∷ es) [] ≡ change_at e.0 (Some e.1) None ++ walked es []
unfolding walked against
walked_before e es = refl

pub walked_after : (f : Bytes × Bytes) (fs : Entries) → walked [] (f ∷ fs) ≡ change_at f.0 None (Some f.1) ++ walked [] fs
unfolding walked added
walked_after f fs = refl

pub walked_both : (e f : Bytes × Bytes) (es fs : Entries) → walked (e ∷ es) (f ∷ fs) ≡ by_order (bytes_cmp e.0 f.0)
    (change_at e.0 (Some e.1) None ++ walked es (f ∷ fs))
    (change_at e.0 (Some e.1) (Some f.1) ++ walked es fs)
    (change_at f.0 None (Some f.1) ++ walked (e ∷ es) fs)
unfolding walked against
walked_both e f es fs = refl

pub is_end : (es fs : Entries) → es ≡ [] → fs ≡ [] → IsEnd es fs
is_end es fs p q = ap (λ xs. walked xs fs) p ∙ ap (λ xs. walked [] xs) q ∙ walked_end

-- one pair fewer is left
one_fewer : (e : Bytes × Bytes) (es es' : Entries) → es ≡ e ∷ rest_of es → es' ≡ rest_of es → length es' + 1 ≡ length es
one_fewer e es es' p q =
    let a : length es ≡ length (rest_of es) + 1 = ap length p ∙ add_one (length (rest_of es)) in
    let b : length es' ≡ length (rest_of es) = ap length q in
    omega arith
  where
    add_one : (n : ℕ) → suc n ≡ n + 1
    add_one n = omega arith

-- the first pair, and what is left
parts : (e : Bytes × Bytes) (es es' : Entries) → IsFirst e es → es' ≡ rest_of es → es ≡ e ∷ es'
parts e es es' p q = p ∙ ap (λ xs. e ∷ xs) (sym q)

pub step_before : (found : Found) (k v : Bytes) (es fs es' : Entries) → change_of found ≡ change_at k (Some v) None → IsFirst (k, v) es → fs ≡ [] → es' ≡ rest_of es → IsStep es fs found es' fs
step_before found k v es fs es' c p none q = record {
  first =
      ap (λ xs. walked xs fs) (parts (k, v) es es' p q) ∙ ap (λ xs. walked ((k, v) ∷ es') xs) none
      ∙ walked_before (k, v) es'
      ∙ ap (λ xs. xs ++ walked es' []) (sym c)
      ∙ ap (λ xs. change_of found ++ walked es' xs) (sym none);
  fewer = let h = one_fewer (k, v) es es' p q in omega arith;
}

pub step_after : (found : Found) (k v : Bytes) (es fs fs' : Entries) → change_of found ≡ change_at k None (Some v) → es ≡ [] → IsFirst (k, v) fs → fs' ≡ rest_of fs → IsStep es fs found es fs'
step_after found k v es fs fs' c none p q = record {
  first =
      ap (λ xs. walked es xs) (parts (k, v) fs fs' p q) ∙ ap (λ xs. walked xs ((k, v) ∷ fs')) none
      ∙ walked_after (k, v) fs'
      ∙ ap (λ xs. xs ++ walked [] fs') (sym c)
      ∙ ap (λ xs. change_of found ++ walked xs fs') (sym none);
  fewer = let h = one_fewer (k, v) fs fs' p q in omega arith;
}

-- both have a first pair: which comes next, by how their keys stand
both_first : (k v j w : Bytes) (es fs es' fs' : Entries) (r : Ordering) → bytes_cmp k j ≡ r → es ≡ (k, v) ∷ es' → fs ≡ (j, w) ∷ fs' → walked es fs ≡ by_order r
    (change_at k (Some v) None ++ walked es' fs)
    (change_at k (Some v) (Some w) ++ walked es' fs')
    (change_at j None (Some w) ++ walked es fs')
both_first k v j w es fs es' fs' r is p q =
    ap (λ xs. walked xs fs) p ∙ ap (λ xs. walked ((k, v) ∷ es') xs) q
    ∙ walked_both (k, v) (j, w) es' fs'
    ∙ ap (λ (o : Ordering). by_order o (change_at k (Some v) None ++ walked es' ((j, w) ∷ fs')) (change_at k (Some v) (Some w) ++ walked es' fs') (change_at j None (Some w) ++ walked ((k, v) ∷ es') fs')) is
    ∙ ap (λ xs. by_order r (change_at k (Some v) None ++ walked es' xs) (change_at k (Some v) (Some w) ++ walked es' fs') (change_at j None (Some w) ++ walked ((k, v) ∷ es') fs')) (sym q)
    ∙ ap (λ xs. by_order r (change_at k (Some v) None ++ walked es' fs) (change_at k (Some v) (Some w) ++ walked es' fs') (change_at j None (Some w) ++ walked xs fs')) (sym p)

pub step_less : (found : Found) (k v j w : Bytes) (es fs es' : Entries) → change_of found ≡ change_at k (Some v) None → bytes_cmp k j ≡ Less → IsFirst (k, v) es → IsFirst (j, w) fs → es' ≡ rest_of es → IsStep es fs found es' fs
step_less found k v j w es fs es' c is p f q = record {
  first = both_first k v j w es fs es' (rest_of fs) Less is (parts (k, v) es es' p q) f ∙ ap (λ xs. xs ++ walked es' fs) (sym c);
  fewer = let h = one_fewer (k, v) es es' p q in omega arith;
}

pub step_greater : (found : Found) (k v j w : Bytes) (es fs fs' : Entries) → change_of found ≡ change_at j None (Some w) → bytes_cmp k j ≡ Greater → IsFirst (k, v) es → IsFirst (j, w) fs → fs' ≡ rest_of fs → IsStep es fs found es fs'
step_greater found k v j w es fs fs' c is p f q = record {
  first = both_first k v j w es fs (rest_of es) fs' Greater is p (parts (j, w) fs fs' f q) ∙ ap (λ xs. xs ++ walked es fs') (sym c);
  fewer = let h = one_fewer (j, w) fs fs' f q in omega arith;
}

pub step_same : (found : Found) (k v j w : Bytes) (es fs es' fs' : Entries) → change_of found ≡ change_at k (Some v) (Some w) → bytes_cmp k j ≡ Equal → IsFirst (k, v) es → IsFirst (j, w) fs → es' ≡ rest_of es → fs' ≡ rest_of fs → IsStep es fs found es' fs'
step_same found k v j w es fs es' fs' c is p f q g = record {
  first = both_first k v j w es fs es' fs' Equal is (parts (k, v) es es' p q) (parts (j, w) fs fs' f g) ∙ ap (λ xs. xs ++ walked es' fs') (sym c);
  fewer = let h = one_fewer (k, v) es es' p q in let i = one_fewer (j, w) fs fs' f g in omega arith;
}

-- the changes so far, and those that are left
pub so_far : (cs ds es all more : List PairChange) → cs ++ es ≡ all → es ≡ ds ++ more → (cs ++ ds) ++ more ≡ all
so_far cs ds es all more p q = append_assoc cs ds more ∙ ap (λ xs. cs ++ xs) (sym q) ∙ p

pub all_found : (cs es all : List PairChange) → cs ++ es ≡ all → es ≡ [] → cs ≡ all
all_found cs es all p q = sym (append-nil cs) ∙ ap (λ xs. cs ++ xs) (sym q) ∙ p
