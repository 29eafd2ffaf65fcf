-- What is read again, with what was read before put over it.
use Rattle.std.proofs.Common.{◌≡◌, true, false, cond, List, [], ◌∷◌, Option, Some, None, is_some, option_map, unwrap_or, refl, sym, ap, ◌∙◌}
use Rattle.std.specs.Ordering.{eq_by_cmp}
use Rattle.std.specs.Cmp.{Equal-is}
use Rattle.std.specs.FinMap as map
use Rattle.std.specs.FinMap.Entries.{find}
use Rattle.byte_map.specs.Sorted.{IsSorted}
use Rattle.byte_map.proofs.Order.{bytes_cmp_total, bytes_cmp-IsAntisymmetric, first, second}
use Rattle.byte_map.proofs.Entries.{find_none}
use Rattle.keycode.specs.Order.{bytes_cmp}
use Rattle.row_map.specs.Rows.{Bytes}
use Rattle.row_map.specs.Expect.{View}
use Rattle.script_session.specs.State.{State}
use Rattle.script_session.specs.Calls.{IsReadView}
use Rattle.typed_calls.specs.Pins.{IsPinnedView, pinned_key, pinned_all}

-- what a pin, if there is one, makes of what is there
abbrev over : Option (Option Bytes) → Option (Option Bytes) → Option (Option Bytes)
over pin there = option_map (λ (now : Option Bytes). unwrap_or pin now) there

over_none : (there : Option (Option Bytes)) → over None there ≡ there
over_none None = refl
over_none (Some now) = refl

-- a pin of a key that is there
pin_there : (there : Option (Option Bytes)) (value : Option Bytes) → is_some there ≡ true → Some value ≡ over (Some value) there
pin_there None value is = absurd cc
pin_there (Some now) value is = refl

pin_missing : (there : Option (Option Bytes)) (value : Option Bytes) → is_some there ≡ false → there ≡ over (Some value) there
pin_missing None value is = refl
pin_missing (Some now) value is = absurd cc

same_key : (q k : Bytes) → eq_by_cmp bytes_cmp q k ≡ true → q ≡ k
same_key q k tied = bytes_cmp-IsAntisymmetric q k ((Equal-is (bytes_cmp q k)).0 tied)

get_pinned_key : (view : View) (pin : Bytes × Option Bytes) (q : Bytes) → map.get (pinned_key view pin) q ≡ over (cond (eq_by_cmp bytes_cmp q pin.0) (Some pin.1) None) (map.get view q)
get_pinned_key view pin q =
    elim (is_some (map.get view pin.0)) as (λ b. is_some (map.get view pin.0) ≡ b → map.get (cond b (map.insert view pin.0 pin.1) view) q ≡ over (cond (eq_by_cmp bytes_cmp q pin.0) (Some pin.1) None) (map.get view q)) [
      | true ↦ λ there.
          map.get-insert bytes_cmp_total view pin.0 pin.1 q
          ∙ elim (eq_by_cmp bytes_cmp q pin.0) as (λ t. eq_by_cmp bytes_cmp q pin.0 ≡ t → cond t (Some pin.1) (map.get view q) ≡ over (cond t (Some pin.1) None) (map.get view q)) [
            | true ↦ λ same. pin_there (map.get view q) pin.1 (ap (λ k. is_some (map.get view k)) (same_key q pin.0 same) ∙ there)
            | false ↦ λ apart. sym (over_none (map.get view q))
          ] refl
      | false ↦ λ missing.
          elim (eq_by_cmp bytes_cmp q pin.0) as (λ t. eq_by_cmp bytes_cmp q pin.0 ≡ t → map.get view q ≡ over (cond t (Some pin.1) None) (map.get view q)) [
            | true ↦ λ same. pin_missing (map.get view q) pin.1 (ap (λ k. is_some (map.get view k)) (same_key q pin.0 same) ∙ missing)
            | false ↦ λ apart. sym (over_none (map.get view q))
          ] refl
    ] refl

get_pinned : (pins : List (Bytes × Option Bytes)) (view : View) (q : Bytes) → IsSorted pins → map.get (pinned_all view pins) q ≡ over (find bytes_cmp q pins) (map.get view q)
get_pinned [] view q rise = sym (over_none (map.get view q))
get_pinned (pin ∷ pins) view q rise =
    get_pinned pins (pinned_key view pin) q (second _ _ rise)
    ∙ ap (over (find bytes_cmp q pins)) (get_pinned_key view pin q)
    ∙ elim (eq_by_cmp bytes_cmp q pin.0) as (λ t. eq_by_cmp bytes_cmp q pin.0 ≡ t → over (find bytes_cmp q pins) (over (cond t (Some pin.1) None) (map.get view q)) ≡ over (cond t (Some pin.1) (find bytes_cmp q pins)) (map.get view q)) [
      | true ↦ λ same. ap (λ o. over o (over (Some pin.1) (map.get view q))) (none_after (same_key q pin.0 same)) ∙ over_none (over (Some pin.1) (map.get view q))
      | false ↦ λ apart. ap (over (find bytes_cmp q pins)) (over_none (map.get view q))
    ] refl
  where
    none_after : q ≡ pin.0 → find bytes_cmp q pins ≡ None
    none_after same = ap (λ (k : Bytes). find bytes_cmp k pins) same ∙ find_none pins pin.0 (first _ _ rise)

-- a view of the world has each of the keys with what is there, and no other
get_read : (world : State) (keys : map.FinMap bytes_cmp (Unit {0})) (view : View) → IsReadView world keys view → (key : Bytes) → map.get view key ≡ option_map (λ _. map.get world.pairs key) (map.get keys key)
get_read world keys view read key =
    elim (map.get keys key) as (λ o. map.get keys key ≡ o → map.get view key ≡ option_map (λ _. map.get world.pairs key) o) [
      | None ↦ λ none. elim (map.get view key) as (λ v. map.get view key ≡ v → v ≡ None) [
        | None ↦ λ _. refl
        | Some value ↦ λ at. absurd (let clash : None ≡ Some tt = sym none ∙ ((read key value).0 at).0 in cc)
      ] refl
      | Some u ↦ λ there. (read key (map.get world.pairs key)).1 (there, refl)
    ] refl

pub pinned_view : (world : State) (keys : map.FinMap bytes_cmp (Unit {0})) (pins read view : View) → IsReadView world keys read → view ≡ pinned_all read (map.entries pins) → IsPinnedView world keys pins view
pinned_view world keys pins read view reads is key =
    ap (λ (v : View). map.get v key) is
    ∙ get_pinned (map.entries pins) read key (map.entries_sorted pins)
    ∙ ap (λ o. over o (map.get read key)) (sym (map.get-entries pins key))
    ∙ ap (over (map.get pins key)) (get_read world keys read reads key)
    ∙ elim (map.get keys key) as (λ o. over (map.get pins key) (option_map (λ _. map.get world.pairs key) o) ≡ option_map (λ _. unwrap_or (map.get pins key) (map.get world.pairs key)) o) [ None ↦ refl | Some u ↦ refl ]
