-- Cited by private functions alone: count_run.
-- How far bytes go without a 0.
use Rattle.std.specs.Prelude.{ℕ, suc, List, [], ◌∷◌, ◌==◌, if◌then◌else◌}

-- how many bytes there are before the first 0
abbrev pub run_of : List ℕ → ℕ
run_of [] = 0
run_of (b ∷ bytes) = if b == 0 then 0 else suc (run_of bytes)
