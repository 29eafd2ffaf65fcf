-- A key that begins otherwise than that of a row's own pair, and what its pair counts for.
use Rattle.std.proofs.Common.{◌≡◌, ℕ, Bool, true, false, true≢false, cond, not, List, [], ◌∷◌, Option, Some, None, Result, Ok, Err, if◌then◌else◌, get_or, length, eqb, refl, arith}
use Rattle.keycode.specs.declared.fault.KeyFault.{KeyFault}
use Rattle.keycode.specs.declared.fault.KeyFault.TheVariants.{BadTag}
use Rattle.keycode.specs.declared.value.Value.{Value}
use Rattle.keycode.specs.Read.{◌>>=◌}
use Rattle.row_map.specs.declared.key.KeyOf.{KeyOf}
use Rattle.row_map.specs.declared.key.KeyOf.TheVariants.{Exists, Column, Index}
use Rattle.row_map.specs.ReadKey.{number_at, until_end, with_number, row_key_at, index_key_at, key_at}
use Rattle.row_map.specs.Rows.{Pairs}
use Rattle.schema_version.specs.Version.{Version}
use Rattle.audit.specs.declared.counts.Counts.{Counts}
use Rattle.audit.specs.Audit.{missing_by}
use Rattle.audit.specs.Encoded.{found, key_read, is_exists}
use Rattle.audit.specs.inner.OwnPairs.{IsOfNoRow}
use Rattle.audit.specs.inner.RowCounts.{has_plain_reason, given_beside}

by_number : (number : ℕ) (values : List Value) (a b : Bool) → IsOfNoRow (found (if a then Err BadTag else (if b then Err BadTag else Ok (Index number values))))
by_number number values true b = tt
by_number number values false true = tt
by_number number values false false = tt

of_values : (number : ℕ) (values : Result (List Value) KeyFault) → IsOfNoRow (found (values >>= λ vs. with_number 2 8 vs (Index number vs)))
unfolding with_number
of_values number (Err fault) = tt
of_values number (Ok values) = by_number number values _ _

of_number : (number : Result (ℕ × List ℕ) KeyFault) → IsOfNoRow (found (number >>= λ n. until_end (length n.1) [] n.1 >>= λ vs. with_number 2 8 vs (Index n.0 vs)))
of_number (Err fault) = tt
of_number (Ok n) = of_values n.0 (until_end (length n.1) [] n.1)

of_index : (bytes : List ℕ) → IsOfNoRow (found (index_key_at bytes))
unfolding index_key_at
of_index bytes = of_number (number_at bytes)

by_tag : (bytes : List ℕ) (a b : Bool) → a ≡ false → IsOfNoRow (found (if a then row_key_at bytes else (if b then index_key_at bytes else Err BadTag)))
by_tag bytes true b is = absurd (true≢false is)
by_tag bytes false true is = of_index bytes
by_tag bytes false false is = tt

-- of a key that begins otherwise
pub other : (key : List ℕ) → eqb (get_or key 0 0) 82 ≡ false → IsOfNoRow (key_read key)
unfolding key_at
other [] e = tt
other (b ∷ bytes) e = by_tag bytes (eqb b 82) (eqb b 88) e

-- of no bytes
pub none : (key : List ℕ) → length key ≡ 0 → IsOfNoRow (key_read key)
unfolding key_at
none [] e = tt
none (b ∷ bytes) e = absurd (omega (arith, e))

-- such a pair counts for one that a row gives, or none
pub counted : (version : Version) (pairs : Pairs) (read : Option KeyOf) → IsOfNoRow read
    → ◌≡◌ {A = Counts} (record { rows = 0; missing = 0; other = 1; given = 0 }) (record { rows = cond (is_exists read) 1 0; missing = missing_by version pairs read; other = cond (not (has_plain_reason version pairs read)) 1 0; given = given_beside version pairs read })
counted version pairs None h = refl
counted version pairs (Some (Exists table primary)) h = absurd h
counted version pairs (Some (Column table primary number)) h = absurd h
counted version pairs (Some (Index number values)) h = refl
