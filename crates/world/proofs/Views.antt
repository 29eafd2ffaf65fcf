-- What is read of keys one after the other is the view of those keys.
use Rattle.std.proofs.Common.{◌≡◌, List, [], ◌∷◌, Option, Some, None, refl, sym, ap, ◌∙◌, Bool, true, false, cond}
use Rattle.std.specs.FinMap as map
use Rattle.std.specs.FinMap.{find}
use Rattle.std.specs.Ordering.{eq_by_cmp}
use Rattle.std.specs.Cmp.{Equal-is}
use Rattle.keycode.specs.Order.{bytes_cmp}
use Rattle.keycode.proofs.Orders.{bytes_cmp_total, bytes_cmp-IsAntisymmetric}
use Rattle.row_map.specs.Rows.{Bytes, Pairs}
use Rattle.row_map.specs.Expect.{View}
use Rattle.world.specs.Calls.{IsReadView}
use Rattle.world.specs.inner.Read.{noted_reads}
use Rattle.world.specs.State.{State}

none_some : {A B : Type 0} (v : A) → None ≡ Some v → B
none_some v e = absurd cc

some_one : {A : Type 0} (v w : A) → Some v ≡ Some w → v ≡ w
some_one v w e = cc

-- what a key that was read has, and what any other has
abbrev or_read : Option (Unit {0}) → Option Bytes → Option (Option Bytes) → Option (Option Bytes)
or_read None present before = before
or_read (Some u) present before = Some present

read_step : (f : Option (Unit {0})) (b : Bool) (here present : Option Bytes) (before : Option (Option Bytes)) → (b ≡ true → here ≡ present) → or_read f present (cond b (Some here) before) ≡ or_read (cond b (Some tt) f) present before
read_step None true here present before same = ap Some (same refl)
read_step (Some u) true here present before same = refl
read_step None false here present before same = refl
read_step (Some u) false here present before same = refl

get_noted : (pairs : Pairs) (view : View) (ks : List (Bytes × Unit {0})) (q : Bytes) → map.get (noted_reads pairs view ks) q ≡ or_read (find bytes_cmp q ks) (map.get pairs q) (map.get view q)
get_noted pairs view [] q = refl
get_noted pairs view (k ∷ ks) q =
    get_noted pairs (map.insert view k.0 (map.get pairs k.0)) ks q
    ∙ ap (or_read (find bytes_cmp q ks) (map.get pairs q)) (map.get-insert bytes_cmp_total view k.0 (map.get pairs k.0) q)
    ∙ read_step (find bytes_cmp q ks) (eq_by_cmp bytes_cmp q k.0) (map.get pairs k.0) (map.get pairs q) (map.get view q)
    (λ e. ap (map.get pairs) (sym (bytes_cmp-IsAntisymmetric q k.0 ((Equal-is (bytes_cmp q k.0)).0 e))))

said : (f : Option (Unit {0})) (present value : Option Bytes) → or_read f present None ≡ Some value → (f ≡ Some tt) × (present ≡ value)
said None present value e = none_some value e
said (Some tt) present value e = (refl, some_one present value e)

pub read_view : (state : State) (pairs : Pairs) (keys : map.FinMap bytes_cmp (Unit {0})) (view : View) → pairs ≡ state.pairs → view ≡ noted_reads pairs map.empty (map.entries keys) → IsReadView state keys view
read_view state pairs keys view same is key value =
    let is_read : map.get view key ≡ or_read (map.get keys key) (map.get state.pairs key) None
    = ap (λ (v : View). map.get v key) is ∙ get_noted pairs map.empty (map.entries keys) key
    ∙ (λ i. or_read (sym (map.get-entries keys key) i) (map.get (same i) key) (map.get-empty bytes_cmp key i)) in (
      λ at. said (map.get keys key) (map.get state.pairs key) value (sym is_read ∙ at),
      λ both. is_read ∙ (λ i. or_read (both.0 i) (both.1 i) None),
    )
