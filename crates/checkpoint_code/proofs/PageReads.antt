-- Pages of pairs: the test of their keys, and what is read.
use Rattle.std.proofs.Common.{◌≡◌, ℕ, Bool, true, false, ◌&&◌, T, List, [], ◌∷◌, Err, refl, sym, ap, subst}
use Rattle.std.specs.Bool.{Decides}
use Rattle.std.specs.declared.cmp.Ordering.{Ordering}
use Rattle.std.specs.declared.cmp.Ordering.TheVariants.{Less, Equal, Greater}
use Rattle.std.specs.Ordering.{is_lt}
use Rattle.std.specs.Cmp.Lexicographic.{nat_list_cmp_total}
use Rattle.std.specs.FinMap.Entries.{is_sorted, below_all}
use Rattle.byte_map.specs.Order.{bytes_cmp}
use Rattle.byte_map.specs.Sorted.{IsSorted}
use Rattle.entry_code.specs.declared.fault.CodeFault.{CodeFault}
use Rattle.entry_code.specs.declared.fault.CodeFault.TheVariants as code
use Rattle.entry_code.specs.Parts.{pairs_code, ArePairs}
use Rattle.entry_code.specs.Read.{IsRead, IsAccepted}
use Rattle.checkpoint_code.specs.Page.{Page, rise_after, rise, IsPageRead, IsPageAccepted}
use Rattle.checkpoint_code.specs.Pages.{to_page_fault}

both : (a b : Bool) → T a → T b → T (a && b)
both true b p q = q
both false b p q = p

first : (a b : Bool) → T (a && b) → T a
first true b p = tt
first false b p = p

second : (a b : Bool) → T (a && b) → T b
second true b p = p
second false b p = absurd p

less : (r : Ordering) → T (is_lt r) → r ≡ Less
less Less p = refl
less Equal p = absurd p
less Greater p = absurd p

below_less : (x y : List ℕ) (es : Page) → T (is_lt (bytes_cmp x y)) → T (below_all bytes_cmp y es) → T (below_all bytes_cmp x es)
below_less x y [] lt below = tt
below_less x y (e ∷ es) lt below =
    both _ _ (subst (λ r. T (is_lt r)) (sym (nat_list_cmp_total.trans x y e.0 (less _ lt) (less _ (first _ _ below)))) tt) (below_less x y es lt (second _ _ below))

-- keys that rise one by one are below all later ones
after_sorted : (key : List ℕ) (es : Page) → T (rise_after key es) → T (below_all bytes_cmp key es) × T (is_sorted bytes_cmp es)
after_sorted key [] up = (tt, tt)
after_sorted key (e ∷ es) up =
    let lt = first (is_lt (bytes_cmp key e.0)) (rise_after e.0 es) up in
    let rest = after_sorted e.0 es (second (is_lt (bytes_cmp key e.0)) (rise_after e.0 es) up) in
    (both _ _ lt (below_less key e.0 es lt rest.0), both _ _ rest.0 rest.1)

sorted_after : (key : List ℕ) (es : Page) → T (below_all bytes_cmp key es) → T (is_sorted bytes_cmp es) → T (rise_after key es)
sorted_after key [] below sorted = tt
sorted_after key (e ∷ es) below sorted = both (is_lt (bytes_cmp key e.0)) (rise_after e.0 es) (first _ _ below) (sorted_after e.0 es (first _ _ sorted) (second _ _ sorted))

is_true : (b : Bool) → b ≡ true → T b
is_true b e = subst T (sym e) tt

to_true : (b : Bool) → T b → b ≡ true
to_true true p = refl
to_true false p = absurd p

pub decides : (es : Page) → Decides (rise es) (IsSorted es)
decides [] = (λ e. tt, λ h. refl)
decides (e ∷ es) = (
  λ t. (let r = after_sorted e.0 es (is_true (rise_after e.0 es) t) in both _ _ r.0 r.1),
  λ h. to_true (rise_after e.0 es) (sorted_after e.0 es (first _ _ h) (second _ _ h)),
)

not_both : {b : Bool} → b ≡ true → b ≡ false → ⊥
not_both p q = cc

pub unsorted : (es : Page) → rise es ≡ false → ¬ (IsSorted es)
unsorted es fails sorted = not_both ((decides es).1 sorted) fails

pub read_fault : (bytes : List ℕ) (fault : CodeFault) → IsRead ArePairs pairs_code bytes (Err fault) → IsPageRead bytes (Err (to_page_fault fault))
read_fault bytes code.Version is = is
read_fault bytes code.Trailing is = is
read_fault bytes code.Malformed is = is
read_fault bytes code.Memory is = is

pub accept_fault : (bytes : List ℕ) (fault : CodeFault) → IsAccepted ArePairs pairs_code bytes (Err fault) → IsPageAccepted bytes (Err (to_page_fault fault))
accept_fault bytes fault accepted = λ pairs known sorted spelled. ap to_page_fault (accepted pairs known spelled)
