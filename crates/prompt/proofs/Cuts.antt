-- A line at the place of its moment.
use Rattle.std.proofs.Common.{◌≡◌, ◌==◌, ℕ, List, [], ◌∷◌, Some, None, length, false, refl}
use Rattle.std.specs.Str.Pattern.{FindsText, SplitsAroundMatch}
use Rattle.prompt.specs.Moment.{IsCutAt}

pub lacks_mark : (mark line : List ℕ) → (length mark == 0) ≡ false → FindsText mark line None → IsCutAt (Some mark) line None
lacks_mark [] line e f = cc
lacks_mark (b ∷ bs) line e f = f

pub cut_at_mark : (mark line front back : List ℕ) → (length mark == 0) ≡ false → SplitsAroundMatch (FindsText mark) line front back → IsCutAt (Some mark) line (Some (front, (mark, back)))
cut_at_mark [] line front back e s = cc
cut_at_mark (b ∷ bs) line front back e s = (refl, s)
