-- The pairs that were found, one after another.
use Rattle.std.proofs.Common.{◌≡◌, ◌≤◌, ◌-◌, List, [], ◌∷◌, Result, Ok, Err, OnOk, subst, arith, drop, length, take}
use Rattle.std.proofs.lemmas.List.{take_all}
use Rattle.std.proofs.Math.ListN.{get_or}
use Rattle.row_map.specs.Rows.{Bytes}
use Rattle.layer_due.specs.declared.records.Records.{Records}
use Rattle.layer_calls.specs.Dues.{IsAdded, AreAdded}

pub on_ok : {A B P Q : Type 0} (result : Result A B) → (P → Q) → OnOk result P → OnOk result Q
on_ok (Ok a) more given = more given
on_ok (Err b) more given = given

pub added_first : (pairs : List (Bytes × Bytes)) (first : Bytes × Bytes) (old middle new : Records) → 1 ≤ length pairs → first ≡ get_or pairs 0 first → IsAdded first old middle
    → AreAdded (take (length pairs - 1) (drop 1 pairs)) middle new → AreAdded pairs old new
added_first [] first old middle new some is added rest = absurd (omega (arith, some))
added_first (pair ∷ pairs) first old middle new some is added rest =
    let all : take (length (pair ∷ pairs) - 1) pairs ≡ pairs = take_all (length (pair ∷ pairs) - 1) pairs (omega arith) in
    (middle, subst (λ (p : Bytes × Bytes). IsAdded p old middle) is added, subst (λ (more : List (Bytes × Bytes)). AreAdded more middle new) all rest)
