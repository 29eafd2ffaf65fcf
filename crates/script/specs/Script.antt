-- Cited by the contracts of run_script.
-- What is written for a script.
use Rattle.std.specs.Prelude.{◌≡◌, ℕ, List, [], ◌∷◌, ◌++◌, ◌+◌, ◌<◌, ◌≤◌, length, Option, IfSome, Result, Ok, Err, Bool, cond}
use Rattle.std.specs.Io.KnownBytes.{Appends}
use Rattle.std.specs.Str.{IsUtf8}
use Rattle.std.specs.Str.Lines.{lines}
use Rattle.std.specs.declared.vec.Vec.{Vec}
use Rattle.std.specs.declared.alloc.Global.{Global}
use Rattle.script_session.specs.Session.{Session, empty}
use Rattle.script_session.specs.Replies.{Reply}
use Rattle.script.specs.declared.run.Summary.{Summary}
use Rattle.script.specs.declared.run.ScriptFault.{ScriptFault}
use Rattle.script.specs.declared.run.ScriptFault.TheVariants.{Read, TooLong, NotUtf8, Write, Memory}

-- From old, the lines in turn may be given this text of replies, with so many bad lines, and leave new.
abbrev pub Replies : Session → List (List ℕ) → List ℕ → ℕ → Session → Type 0
Replies old [] text bad new = (text ≡ []) × (bad ≡ 0) × (new ≡ old)
Replies old (l ∷ ls) text bad new =
    (reply : List ℕ) × (is_bad : Bool) × (mid : Session) × (more : List ℕ) × (others : ℕ)
    × Reply old l reply is_bad mid × Replies mid ls more others new × (text ≡ reply ++ more) × (bad ≡ cond is_bad 1 0 + others)

abbrev pub limit : ℕ
limit = 16777216

-- The bytes that were read are all that were left, where those are known.
abbrev pub ReadAs : List ℕ → Result (Vec ℕ Global) ScriptFault → Type 0
ReadAs input (Ok bytes) = (bytes.items ≡ input) × (length input ≤ limit)
ReadAs input (Err Read) = Unit {0}
ReadAs input (Err TooLong) = limit < length input
ReadAs input (Err NotUtf8) = ⊥
ReadAs input (Err Write) = ⊥
ReadAs input (Err Memory) = Unit {0}

abbrev pub IsRead : Option (List ℕ) → Result (Vec ℕ Global) ScriptFault → Type 0
IsRead input result = IfSome input (λ bytes. ReadAs bytes result)

-- Known bytes grew by a start of the text.
abbrev pub AppendsPrefix : Option (List ℕ) → Option (List ℕ) → List ℕ → Type 0
AppendsPrefix old new text = (out : List ℕ) × (cut : List ℕ) × Appends old new out × (text ≡ out ++ cut)

-- the text of replies to a script, with so many bad lines
abbrev pub IsTextOf : List ℕ → List ℕ → ℕ → Type 0
IsTextOf input text bad = (new : Session) × Replies empty (lines input) text bad new

-- What went out after a fault: a start of the replies to a start of the lines.
abbrev pub IsCutTextOf : List ℕ → List ℕ → Type 0
IsCutTextOf input out =
    (prefix : List (List ℕ)) × (back : List (List ℕ)) × (text : List ℕ) × (bad : ℕ) × (new : Session) × (cut : List ℕ)
    × (lines input ≡ prefix ++ back) × Replies empty prefix text bad new × (text ≡ out ++ cut)

-- What is written for any input, and how the call ends.
abbrev pub Reported : List ℕ → List ℕ → Result Summary ScriptFault → Type 0
Reported input out (Ok s) = (length input ≤ limit) × IsUtf8 input × IsTextOf input out s.bad × (s.lines ≡ length (lines input))
Reported input out (Err Read) = out ≡ []
Reported input out (Err TooLong) = (limit < length input) × (out ≡ [])
Reported input out (Err NotUtf8) = (length input ≤ limit) × (IsUtf8 input → ⊥) × (out ≡ [])
Reported input out (Err Write) = (length input ≤ limit) × IsUtf8 input × IsCutTextOf input out
Reported input out (Err Memory) = IsCutTextOf input out

-- What was written, if the bytes that were left to read are known.
abbrev pub Ran : Option (List ℕ) → Option (List ℕ) → Option (List ℕ) → Result Summary ScriptFault → Type 0
Ran input old new result = (out : List ℕ) × Appends old new out × IfSome input (λ bytes. Reported bytes out result)
