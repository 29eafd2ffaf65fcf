-- Cited by the contracts of run_watched, watched_status.
-- A run that reports bad and refused lines, and that may end at the first of them.
use Rattle.std.specs.Prelude.{◌≡◌, ◌⊎◌, ℕ, List, [], ◌∷◌, ◌++◌, ◌+◌, ◌<◌, ◌≤◌, length, take, Option, IfSome, Result, Ok, Err, Bool, true, false, not, ◌&&◌, ◌||◌, cond, codes}
use Rattle.std.specs.Io.KnownBytes.{Appends}
use Rattle.std.specs.Str.{IsUtf8, bytes_eq}
use Rattle.std.specs.Str.Lines.{lines}
use Rattle.script_session.specs.Session.{Session, empty}
use Rattle.script_session.specs.Replies.{Reply}
use Rattle.script.specs.Script.{IsCutTextOf, limit}
use Rattle.script.specs.Status.{with_bad}
use Rattle.script.specs.declared.run.ScriptFault.{ScriptFault}
use Rattle.script.specs.declared.run.ScriptFault.TheVariants.{Read, TooLong, NotUtf8, Write, Memory}
use Rattle.script.specs.declared.watched.Ending.{Ending}

-- whether a reply begins with `refused `
abbrev pub is_refusal : List ℕ → Bool
is_refusal reply = bytes_eq (take 8 reply) (codes "refused ")

-- whether a reply says that the line is bad or refused
abbrev pub is_wrong : List ℕ → Bool → Bool
is_wrong reply bad = bad || is_refusal reply

-- From old, the lines in turn may be given this text of replies, with so many bad lines, and leave new; none of them ends a run that stops.
abbrev pub Passing : Bool → Session → List (List ℕ) → List ℕ → ℕ → Session → Type 0
Passing stops old [] text bad new = (text ≡ []) × (bad ≡ 0) × (new ≡ old)
Passing stops old (l ∷ ls) text bad new =
    (reply : List ℕ) × (is_bad : Bool) × (mid : Session) × (more : List ℕ) × (others : ℕ)
    × Reply old l reply is_bad mid × ((stops && is_wrong reply is_bad) ≡ false) × Passing stops mid ls more others new × (text ≡ reply ++ more) × (bad ≡ cond is_bad 1 0 + others)

-- no line ended the run
abbrev pub IsWhole : List ℕ → List (List ℕ) → List ℕ → ℕ → List ℕ → Ending → Type 0
IsWhole input passed text bad out end = (lines input ≡ passed) × (out ≡ text) × (end.lines ≡ length passed) × (end.bad ≡ bad) × (end.is_refused ≡ false)

-- the line after those that passed is bad or refused, and ended the run
abbrev pub IsStopped : List ℕ → List (List ℕ) → List ℕ → ℕ → Session → List ℕ → Ending → Type 0
IsStopped input passed text bad mid out end =
    (l : List ℕ) × (others : List (List ℕ)) × (reply : List ℕ) × (is_bad : Bool) × (new : Session)
    × (lines input ≡ passed ++ l ∷ others) × Reply mid l reply is_bad new × (is_wrong reply is_bad ≡ true)
    × (out ≡ text ++ reply) × (end.lines ≡ length passed + 1) × (end.bad ≡ bad + cond is_bad 1 0) × (end.is_refused ≡ not is_bad)

-- the text of replies, to all lines or, if the run stops, up to the first that is bad or refused
abbrev pub IsTextUntil : Bool → List ℕ → List ℕ → Ending → Type 0
IsTextUntil stops input out end =
    (passed : List (List ℕ)) × (text : List ℕ) × (bad : ℕ) × (mid : Session)
    × Passing stops empty passed text bad mid × (IsWhole input passed text bad out end ⊎ ((stops ≡ true) × IsStopped input passed text bad mid out end))

-- What is written for an input that is a script, and how the call ends.
abbrev pub AnsweredUntil : Bool → List ℕ → List ℕ → Result Ending ScriptFault → Type 0
AnsweredUntil stops input out (Ok end) = IsTextUntil stops input out end
AnsweredUntil stops input out (Err Read) = ⊥
AnsweredUntil stops input out (Err TooLong) = ⊥
AnsweredUntil stops input out (Err NotUtf8) = ⊥
AnsweredUntil stops input out (Err Write) = IsCutTextOf input out
AnsweredUntil stops input out (Err Memory) = IsCutTextOf input out

-- The same for any input.
abbrev pub ReportedUntil : Bool → List ℕ → List ℕ → Result Ending ScriptFault → Type 0
ReportedUntil stops input out (Ok end) = (length input ≤ limit) × IsUtf8 input × IsTextUntil stops input out end
ReportedUntil stops input out (Err Read) = out ≡ []
ReportedUntil stops input out (Err TooLong) = (limit < length input) × (out ≡ [])
ReportedUntil stops input out (Err NotUtf8) = (length input ≤ limit) × (IsUtf8 input → ⊥) × (out ≡ [])
ReportedUntil stops input out (Err Write) = (length input ≤ limit) × IsUtf8 input × IsCutTextOf input out
ReportedUntil stops input out (Err Memory) = IsCutTextOf input out

-- What was written, if the bytes that were left to read are known.
abbrev pub RanUntil : Bool → Option (List ℕ) → Option (List ℕ) → Option (List ℕ) → Result Ending ScriptFault → Type 0
RanUntil stops input old new result = (out : List ℕ) × Appends old new out × IfSome input (λ bytes. ReportedUntil stops bytes out result)

-- the exit status: 7 if a refused line ended the run
abbrev pub watched_status : Result Ending ScriptFault → ℕ
watched_status (Ok end) = cond end.is_refused 7 (with_bad end.bad)
watched_status (Err Read) = 3
watched_status (Err TooLong) = 3
watched_status (Err NotUtf8) = 3
watched_status (Err Write) = 4
watched_status (Err Memory) = 5
