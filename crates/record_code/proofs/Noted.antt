-- The last write of each key.
use Rattle.std.proofs.Common.{◌≡◌, ℕ, ◌+◌, ◌<◌, [], ◌∷◌, length, take, get_or, Option, ap, ◌∙◌}
use Rattle.std.specs.FinMap as map
use Rattle.std.proofs.lemmas.List.{take_more}
use Rattle.byte_map.proofs.Written.{noted-append}
use Rattle.row_map.specs.Rows.{Bytes}
use Rattle.row_map.specs.Writes.{Writes, Batch, noted}

pub one_more : (ws : Writes) (i : ℕ) (d : Bytes × Option Bytes) → i < length ws → (let b : Batch = noted map.empty (take (i + 1) ws) in b) ≡ map.insert (noted map.empty (take i ws)) (get_or ws i d).0 (get_or ws i d).1
one_more ws i d lt = ap (noted map.empty) (take_more ws i d lt) ∙ noted-append (take i ws) (get_or ws i d ∷ []) map.empty
