-- What a run that never stops says of the whole script.
use Rattle.std.proofs.Common.{◌≡◌, ◌⊎◌, ℕ, List, length, Option, Some, None, Ok, Err, IfSome, ap, sym, subst, ◌∙◌, false, true, inl, inr}
use Rattle.std.proofs.lemmas.Bool.{false≢true}
use Rattle.std.specs.Str.Lines.{lines}
use Rattle.script_session.specs.Session.{Session, empty}
use Rattle.script.specs.Script.{IsTextOf, Replies, Reported, Ran}
use Rattle.script.specs.Watched.{IsStopped, IsTextUntil, IsWhole, RanUntil, ReportedUntil}
use Rattle.script.specs.declared.run.ScriptFault.{ScriptFault}
use Rattle.script.specs.declared.run.ScriptFault.TheVariants.{Read, TooLong, NotUtf8, Write, Memory}
use Rattle.script.specs.declared.watched.Ending.{Ending}
use Rattle.script.proofs.Until.{replied}

never_stopped : {A B : Type 0} → A ⊎ ((false ≡ true) × B) → A
never_stopped (inl a) = a
never_stopped (inr s) = absurd (false≢true s.0)

text_of : (input out : List ℕ) (end : Ending) → IsTextUntil false input out end → IsTextOf input out end.bad × (end.lines ≡ length (lines input))
text_of input out end h =
    let whole : IsWhole input h.0 h.1 h.2 out end = never_stopped h.5 in
    let replies = replied false empty h.0 h.1 h.2 h.3 h.4 in
    let lined : Replies empty (lines input) h.1 h.2 h.3 = subst (λ ls. Replies empty ls h.1 h.2 h.3) (sym whole.0) replies in
    let written : Replies empty (lines input) out h.2 h.3 = subst (λ t. Replies empty (lines input) t h.2 h.3) (sym whole.1) lined in
    ((h.3, subst (λ n. Replies empty (lines input) out n h.3) (sym whole.3) written), whole.2 ∙ ap length (sym whole.0))

reported : (a : Option (List ℕ)) (out : List ℕ) (end : Ending) → IfSome a (λ b. ReportedUntil false b out (Ok end)) → IfSome a (λ b. Reported b out (Ok (record { lines = end.lines; bad = end.bad })))
reported None out end h = tt
reported (Some xs) out end h = let t = text_of xs out end h.2 in (h.0, h.1, t.0, t.1)

fault_reported : (a : Option (List ℕ)) (out : List ℕ) (fault : ScriptFault) → IfSome a (λ b. ReportedUntil false b out (Err fault)) → IfSome a (λ b. Reported b out (Err fault))
fault_reported None out fault h = tt
fault_reported (Some xs) out Read h = h
fault_reported (Some xs) out TooLong h = h
fault_reported (Some xs) out NotUtf8 h = h
fault_reported (Some xs) out Write h = h
fault_reported (Some xs) out Memory h = h

pub ran : (a old new : Option (List ℕ)) (end : Ending) → RanUntil false a old new (Ok end) → Ran a old new (Ok (record { lines = end.lines; bad = end.bad }))
ran a old new end h = (h.0, h.1, reported a h.0 end h.2)

pub ran_faulty : (a old new : Option (List ℕ)) (fault : ScriptFault) → RanUntil false a old new (Err fault) → Ran a old new (Err fault)
ran_faulty a old new fault h = (h.0, h.1, fault_reported a h.0 fault h.2)
