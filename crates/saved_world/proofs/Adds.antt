-- A page that is added to what was read.
use Rattle.std.proofs.Common.{◌≡◌, inl, inr, ℕ, Bool, true, false, T, List, [], ◌∷◌, ◌++◌, Option, Some, None, Result, Ok, Err, refl, sym, ap, subst, ◌∙◌, OnOk, OnErr, IfErr}
use Rattle.std.proofs.lemmas.List.{append-nil}
use Rattle.std.specs.FinMap as map
use Rattle.byte_map.specs.Sorted.{IsSorted}
use Rattle.byte_map.specs.Writes.{written_all}
use Rattle.row_map.specs.Rows.{Bytes, Pairs}
use Rattle.checkpoint_code.specs.Page.{Page, IsPageRead, IsPageAccepted}
use Rattle.checkpoint_code.specs.declared.head.Head.{Head}
use Rattle.checkpoint_code.specs.declared.fault.PageFault.{PageFault}
use Rattle.saved_world.specs.declared.fault.LoadFault.{LoadFault}
use Rattle.saved_world.specs.declared.fault.LoadFault.TheVariants.{Page as OfPage, Unordered, Memory}
use Rattle.saved_world.specs.Follows.{last_key, follows}
use Rattle.saved_world.specs.Loading.{Loaded, IsAdded, IsAddAccepted}
use Rattle.saved_world.specs.inner.Puts.{puts}
use Rattle.saved_world.specs.inner.Adds.{AreAdded, WhyNotAdded}
use Rattle.saved_world.proofs.Puts.{append_sorted, sorted_follows, sorted_later, last_append, entries_put}

-- ---- into the store

is_true : (b : Bool) → b ≡ true → T b
is_true b e = subst T (sym e) tt

not_both : (b : Bool) → T b → b ≡ false → ⊥
not_both b p q = subst T q p

pub unordered : (old : Pairs) (page : Page) (last : Option Bytes) → last ≡ last_key (map.entries old) → follows last page ≡ false → ¬ (IsSorted (map.entries old ++ page))
unordered old page last at fails sorted = not_both _ (sorted_follows (map.entries old) page sorted) (ap (λ (l : Option Bytes). follows l page) (sym at) ∙ fails)

no_page : (page : Page) → None ≡ last_key page → page ≡ []
no_page [] is = refl
no_page (p ∷ ps) is = absurd cc

pub none_added : (old : Pairs) (page : Page) (last : Option Bytes) → last ≡ last_key (map.entries old) → None ≡ last_key page → AreAdded old page old last
none_added old page last at none =
    let same : map.entries old ++ page ≡ map.entries old = ap (λ (l : Page). map.entries old ++ l) (no_page page none) ∙ append-nil (map.entries old) in
    record { on = subst IsSorted (sym same) (map.entries_sorted old); pairs = sym same; last_is = at }

last_of_all : (before page : Page) (greatest : Bytes) → Some greatest ≡ last_key page → Some greatest ≡ last_key (before ++ page)
last_of_all before [] greatest is = absurd cc
last_of_all before (p ∷ ps) greatest is = is ∙ sym (last_append before p ps)

pub goes_on : (old : Pairs) (page : Page) (last : Option Bytes) → last ≡ last_key (map.entries old) → IsSorted page → follows last page ≡ true → IsSorted (map.entries old ++ page)
goes_on old page last at sorted passes = append_sorted (map.entries old) page (map.entries_sorted old) sorted (is_true _ (ap (λ (l : Option Bytes). follows l page) (sym at) ∙ passes))

-- a page that goes on is refused only when out of memory
pub no_memory : (old : Pairs) (page : Page) (last : Option Bytes) (r : Result (Unit {0}) LoadFault) → last ≡ last_key (map.entries old) → IsSorted page → follows last page ≡ true → r ≡ Err Memory → IfErr r (WhyNotAdded old page)
no_memory old page last r at sorted passes is = subst (λ (x : Result (Unit {0}) LoadFault). IfErr x (WhyNotAdded old page)) (sym is) (inl (refl, goes_on old page last at sorted passes))

pub all_added : (old : Pairs) (page : Page) (new : Pairs) (last : Option Bytes) (greatest : Bytes) → last ≡ last_key (map.entries old) → IsSorted page → follows last page ≡ true → Some greatest ≡ last_key page → new ≡ written_all old (puts page)
    → AreAdded old page new (Some greatest)
all_added old page new last greatest at sorted passes is put =
    let on : IsSorted (map.entries old ++ page) = goes_on old page last at sorted passes in
    let all : map.entries new ≡ map.entries old ++ page = ap (λ (m : Pairs). map.entries m) put ∙ entries_put old page on in
    record { on = on; pairs = all; last_is = last_of_all (map.entries old) page greatest is ∙ ap last_key (sym all) }

-- ---- what was read then

abbrev pub loaded : Head → Pairs → Loaded
loaded head store = record { head = head; pairs = map.entries store }

module _ (head : Head) (old new : Pairs) (bytes : List ℕ) where
  same_loaded : new ≡ old → loaded head new ≡ loaded head old
  same_loaded same = ap (loaded head) same

  module _ (page : Page) (last : Option Bytes) (r : Result (Unit {0}) LoadFault) where
    pub is_added : IsPageRead bytes (Ok page) → OnOk r (AreAdded old page new last) → IfErr r (WhyNotAdded old page) → OnErr r (new ≡ old) → IsAdded (loaded head old) bytes r (loaded head new)
    is_added read added why kept = by r added why kept
      where
        by : (r : Result (Unit {0}) LoadFault) → OnOk r (AreAdded old page new last) → IfErr r (WhyNotAdded old page) → OnErr r (new ≡ old) → IsAdded (loaded head old) bytes r (loaded head new)
        by (Ok done) added why kept = (page, read, added.on, λ i. record { head = head; pairs = added.pairs i })
        by (Err (OfPage fault)) added (inl is) kept = absurd cc
        by (Err (OfPage fault)) added (inr is) kept = absurd cc
        by (Err Unordered) added (inl is) kept = absurd cc
        by (Err Unordered) added (inr is) kept = (page, read, is.1, same_loaded kept)
        by (Err Memory) added (inl is) kept = (page, read, is.1, same_loaded kept)
        by (Err Memory) added (inr is) kept = absurd cc

    pub is_accepted : IsPageAccepted bytes (Ok page) → OnOk r (AreAdded old page new last) → IfErr r (WhyNotAdded old page) → IsAddAccepted (loaded head old) bytes r (loaded head new)
    is_accepted accepted added why = by r added why
      where
        by : (r : Result (Unit {0}) LoadFault) → OnOk r (AreAdded old page new last) → IfErr r (WhyNotAdded old page) → IsAddAccepted (loaded head old) bytes r (loaded head new)
        by (Ok done) added why = λ other known sorted code. λ i. record { head = head; pairs = (added.pairs ∙ ap (λ (l : Page). map.entries old ++ l) (accepted other known (sorted_later (map.entries old) other sorted) code)) i }
        by (Err (OfPage fault)) added (inl is) = absurd cc
        by (Err (OfPage fault)) added (inr is) = absurd cc
        by (Err Unordered) added (inl is) = absurd cc
        by (Err Unordered) added (inr is) = λ other known sorted code. is.1 (subst (λ (l : Page). IsSorted (map.entries old ++ l)) (sym (accepted other known (sorted_later (map.entries old) other sorted) code)) sorted)
        by (Err Memory) added why = λ other known sorted code. tt

-- a page that is refused by itself
pub page_refused_so : (old : Loaded) (bytes : List ℕ) (fault : PageFault) (r : Result (Unit {0}) LoadFault) → r ≡ Err (OfPage fault) → IsPageAccepted bytes (Err fault) → IsAddAccepted old bytes r old
page_refused_so old bytes fault r is accepted =
    subst (λ (x : Result (Unit {0}) LoadFault). IsAddAccepted old bytes x old) (sym is) (λ page known sorted code. accepted page known (sorted_later old.pairs page sorted) code)

pub still_last : (old new : Pairs) (page : Page) (last later : Option Bytes) (r : Result (Unit {0}) LoadFault) → last ≡ last_key (map.entries old) → OnOk r (AreAdded old page new later) → OnErr r ((new ≡ old) × (later ≡ last)) → later ≡ last_key (map.entries new)
still_last old new page last later (Ok done) at added kept = added.last_is
still_last old new page last later (Err fault) at added kept = kept.1 ∙ at ∙ ap (λ (m : Pairs). last_key (map.entries m)) (sym kept.0)
