-- Cited by the contracts of Session::new.
-- What stands between two lines of a script.
use Rattle.std.specs.Prelude.{ℕ, []}
use Rattle.script_session.specs.declared.session.Session.{Session as TheSession}
use Rattle.script_session.specs.declared.session.Session.TheVariants.{Declaring}
use Rattle.script_session.specs.declared.session.Declarations.{Declarations}

abbrev pub Session : Type 0
Session = TheSession

-- a lease's length where no line says it
abbrev pub usual_length : ℕ
usual_length = 10

abbrev pub nothing_declared : Declarations
nothing_declared = record { tables = []; length = usual_length }

-- where a script begins
abbrev pub empty : Session
empty = Declaring nothing_declared
