-- Cited by the contracts of read and of what it calls.
-- What a transaction reads again: a key that it read before keeps what it had then.
use Rattle.std.specs.Prelude.{◌≡◌, List, [], ◌∷◌, Option, is_some, option_map, unwrap_or, if◌then◌else◌}
use Rattle.std.specs.FinMap as map
use Rattle.keycode.specs.Order.{bytes_cmp}
use Rattle.row_map.specs.Rows.{Bytes}
use Rattle.row_map.specs.Expect.{View}
use Rattle.script_session.specs.State.{State}

-- each key that is to be read, with what the pins have of it, or else with what the world has now, and no other key
abbrev pub IsPinnedView : State → map.FinMap bytes_cmp (Unit {0}) → View → View → Type 0
IsPinnedView world keys pins view =
    (key : Bytes) → map.get view key ≡ option_map (λ _. unwrap_or (map.get pins key) (map.get world.pairs key)) (map.get keys key)

-- ---- one pin after another

abbrev pub pinned_key : View → Bytes × Option Bytes → View
pinned_key view pin = if is_some (map.get view pin.0) then map.insert view pin.0 pin.1 else view

abbrev pub pinned_all : View → List (Bytes × Option Bytes) → View
pinned_all view [] = view
pinned_all view (pin ∷ pins) = pinned_all (pinned_key view pin) pins
