-- The checkpoint that was read.
use Rattle.std.proofs.Common.{◌≡◌, List, sym}
use Rattle.std.specs.FinMap as map
use Rattle.byte_map.proofs.Maps.{map_entries}
use Rattle.row_map.specs.Rows.{Pairs}
use Rattle.reorganise.specs.declared.work.Progress.{Progress}
use Rattle.checkpoint.specs.Checkpoint.{Checkpoint}
use Rattle.checkpoint_code.specs.declared.head.Head.{Head}
use Rattle.saved_world.specs.Loading.{checkpoint_in}

abbrev pub with_store : Head → List Progress → Pairs → Checkpoint
with_store head begun store = record { place = head.place; moment = head.moment; line = head.line; newest = head.newest; before = head.before; progress = begun; pairs = store }

pub parts_are : (head : Head) (begun : List Progress) (store : Pairs) → begun ≡ head.begun → with_store head begun store ≡ checkpoint_in (record { head = head; pairs = map.entries store })
parts_are head begun store same = λ i. with_store head (same i) (sym (map_entries store) i)
