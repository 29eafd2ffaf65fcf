-- From what each part says to what the whole call of run_watched says.
use Rattle.std.proofs.Common.{◌≡◌, ◌≤◌, ℕ, Bool, List, [], length, Option, Some, None, Result, Ok, Err, IfSome, sym, subst, refl}
use Rattle.std.specs.Str.{IsUtf8}
use Rattle.std.specs.Str.Lines.{lines}
use Rattle.script_session.specs.Session.{empty}
use Rattle.script.specs.Script.{IsRead, limit}
use Rattle.script.specs.Watched.{ReportedUntil, AnsweredUntil}
use Rattle.script.specs.declared.watched.Ending.{Ending}
use Rattle.script.specs.declared.run.ScriptFault.{ScriptFault}
use Rattle.script.specs.declared.run.ScriptFault.TheVariants.{Read, TooLong, NotUtf8, Write, Memory}

pub fault_reported_until : (stops : Bool) (a : Option (List ℕ)) (e : ScriptFault) → IsRead a (Err e) → IfSome a (λ b. ReportedUntil stops b [] (Err e))
fault_reported_until stops None e h = tt
fault_reported_until stops (Some xs) Read h = refl
fault_reported_until stops (Some xs) TooLong h = (h, refl)
fault_reported_until stops (Some xs) NotUtf8 h = absurd h
fault_reported_until stops (Some xs) Write h = absurd h
fault_reported_until stops (Some xs) Memory h = ([], lines xs, [], 0, empty, [], refl, (refl, refl, refl), refl)

pub not_utf8_reported_until : (stops : Bool) (a : Option (List ℕ)) (bytes : List ℕ) → IfSome a (λ input. (bytes ≡ input) × (length input ≤ limit)) → (IsUtf8 bytes → ⊥) → IfSome a (λ b. ReportedUntil stops b [] (Err NotUtf8))
not_utf8_reported_until stops None bytes h n = tt
not_utf8_reported_until stops (Some xs) bytes h n = (h.1, λ u. n (subst IsUtf8 (sym h.0) u), refl)

reported_until : (stops : Bool) (xs out : List ℕ) (r : Result Ending ScriptFault) → length xs ≤ limit → IsUtf8 xs → AnsweredUntil stops xs out r → ReportedUntil stops xs out r
reported_until stops xs out (Ok s) l u h = (l, u, h)
reported_until stops xs out (Err Read) l u h = absurd h
reported_until stops xs out (Err TooLong) l u h = absurd h
reported_until stops xs out (Err NotUtf8) l u h = absurd h
reported_until stops xs out (Err Write) l u h = (l, u, h)
reported_until stops xs out (Err Memory) l u h = h

pub answered_reported_until : (stops : Bool) (a : Option (List ℕ)) (bytes out : List ℕ) (r : Result Ending ScriptFault) → IfSome a (λ input. (bytes ≡ input) × (length input ≤ limit)) → IsUtf8 bytes → AnsweredUntil stops bytes out r → IfSome a (λ b. ReportedUntil stops b out r)
answered_reported_until stops None bytes out r h u k = tt
answered_reported_until stops (Some xs) bytes out r h u k = reported_until stops xs out r h.1 (subst IsUtf8 h.0 u) (subst (λ b. AnsweredUntil stops b out r) h.0 k)
