-- Cited by the contracts of answer_one.
-- What goes out for one line, and what its reply says of it.
use Rattle.std.specs.Prelude.{◌≡◌, ℕ, List, [], Option, Result, Ok, Err, Bool}
use Rattle.std.specs.Io.KnownBytes.{Appends}
use Rattle.script_session.specs.Session.{Session}
use Rattle.script_session.specs.Replies.{Reply}
use Rattle.script.specs.Script.{AppendsPrefix}
use Rattle.script.specs.Watched.{is_wrong}
use Rattle.script.specs.declared.run.ScriptFault.{ScriptFault}
use Rattle.script.specs.declared.run.ScriptFault.TheVariants.{Read, TooLong, NotUtf8, Write, Memory}
use Rattle.script.specs.declared.watched.Verdict.{Verdict}

-- The line was given a reply that it may be given, all of it went out, and the verdict is what it says.
pub record IsReplied (old : Session) (line : List ℕ) (new : Session) (before after : Option (List ℕ)) (verdict : Verdict) : Type 0 where
  pub reply : List ℕ
  pub is_due : Reply old line reply verdict.is_bad new
  pub is_out : Appends before after reply
  pub is_judged : verdict.is_wrong ≡ is_wrong reply verdict.is_bad

-- a start of such a reply went out
pub record IsCut (old : Session) (line : List ℕ) (before after : Option (List ℕ)) : Type 0 where
  pub reply : List ℕ
  pub is_bad : Bool
  pub new : Session
  pub is_due : Reply old line reply is_bad new
  pub is_out : AppendsPrefix before after reply

-- What goes out for a line, and how the call ends.
abbrev pub IsAnswered : Session → List ℕ → Session → Option (List ℕ) → Option (List ℕ) → Result Verdict ScriptFault → Type 0
IsAnswered old line new before after (Ok verdict) = IsReplied old line new before after verdict
IsAnswered old line new before after (Err Read) = ⊥
IsAnswered old line new before after (Err TooLong) = ⊥
IsAnswered old line new before after (Err NotUtf8) = ⊥
IsAnswered old line new before after (Err Write) = IsCut old line before after
IsAnswered old line new before after (Err Memory) = Appends before after []
