-- What an opened world shows of a line that asks for a path: what is found of it, or else any view.
use Rattle.std.proofs.Common.{◌≡◌, ℕ, List, Option, Some, None, Result, Ok, Err, IfOk, option_map, sym, subst}
use Rattle.std.specs.Str.{trim}
use Rattle.script_progress.specs.Session.{Session}
use Rattle.script_progress.specs.Opened.{Opened}
use Rattle.script_progress.specs.SessionVariants.TheVariants.{Running}
use Rattle.script_progress.specs.Explain.{ShowsPath, ShowsPathIn}

-- a line of which no view is found asks for no path
pub path_after_none : {X E : Type 0} (bytes : X → List ℕ) (opened : Opened) (found : Option X) (result : Result (Option X) E) (line : List ℕ) → found ≡ None → ShowsPathIn opened line (option_map bytes found)
    → IfOk result (λ shown. ShowsPathIn opened line (option_map bytes shown))
path_after_none {X = X} bytes opened found (Ok shown) line is h = λ rest same. absurd (subst (λ (o : Option X). ShowsPathIn opened line (option_map bytes o)) is h rest same)
path_after_none bytes opened found (Err short) line is h = tt

pub path_of_some : {X : Type 0} (bytes : X → List ℕ) (opened : Opened) (found : Option X) (text : X) (line : List ℕ) → found ≡ Some text → ShowsPathIn opened line (option_map bytes found) → ShowsPathIn opened line (option_map bytes (Some text))
path_of_some {X = X} bytes opened found text line is h = subst (λ (o : Option X). ShowsPathIn opened line (option_map bytes o)) is h

pub shown_running : {X E : Type 0} (bytes : X → List ℕ) (result : Result (Option X) E) (session : Session) (opened : Opened) (line trimmed : List ℕ) → session ≡ Running opened → trimmed ≡ trim line
    → IfOk result (λ shown. ShowsPathIn opened trimmed (option_map bytes shown)) → IfOk result (λ shown. ShowsPath session line (option_map bytes shown))
shown_running bytes (Ok shown) session opened line trimmed same is h =
    subst (λ (s : Session). ShowsPath s line (option_map bytes shown)) (sym same) (subst (λ (l : List ℕ). ShowsPathIn opened l (option_map bytes shown)) is h)
shown_running bytes (Err short) session opened line trimmed same is h = tt
