-- The file that a line `save` names.
use Rattle.std.proofs.Common.{◌≡◌, ◌==◌, ◌+◌, ℕ, List, [], length, sym, subst, refl, arith}
use Rattle.std.specs.List.{after_first, position_or_len}
use Rattle.std.specs.Str.{chars, trim, trim_start}
use Rattle.std.proofs.lemmas.List.{drop_all}
use Rattle.prompt.specs.Save.{file_of}

start_of_nothing : [] ≡ trim_start []
unfolding trim_start chars
start_of_nothing = refl

-- Nothing follows the first word of a line that has no space.
pub no_file : (line trimmed : List ℕ) → trimmed ≡ trim line → position_or_len (λ b. b == 32) trimmed ≡ length trimmed → [] ≡ file_of line
no_file line trimmed is none =
    let nothing : [] ≡ after_first (λ b. b == 32) trimmed = sym (drop_all (position_or_len (λ b. b == 32) trimmed + 1) trimmed (omega (arith, none))) in
    subst (λ (t : List ℕ). [] ≡ trim_start (after_first (λ b. b == 32) t)) is (subst (λ (t : List ℕ). [] ≡ trim_start t) nothing start_of_nothing)
