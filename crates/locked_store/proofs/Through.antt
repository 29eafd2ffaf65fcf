-- The world's answer is the lock's.
use Rattle.std.proofs.Common.{◌≡◌, ℕ, Option, Result, Ok, Err, refl, subst, sym}
use Rattle.rollout.specs.Calls.{given_back}
use Rattle.rollout.specs.State.{State}
use Rattle.locked_store.specs.Answers.{Answers, AnswersBack, Empties, Finds, Found, Takes, TakesBack, TakesOut, reported, to_fault}
use Rattle.locked_store.specs.Known.{Known}
use Rattle.locked_store.specs.declared.fault.SharedFault.{SharedFault}
use Rattle.locked_store.specs.declared.fault.WentBack.{WentBack}

pub answers : {T E : Type 0} (start : State) (v : Known) (answer : Result T E) (w : Known) (step : State → Result T E → State → Type 0) (place : T → Option ℕ) (found left : State)
    → Takes start v found answer left w step place → Answers start v (reported answer) w step place
answers start v (Ok x) w step place found left takes = (found, left, takes)
answers start v (Err e) w step place found left takes = (found, left, takes)

pub answers_back : {T E P : Type 0} (start : State) (v : Known) (prepared : P) (answer : Result T (E × P)) (w : Known) (step : State → Result T (E × P) → State → Type 0) (place : T → Option ℕ) (found left : State)
    → TakesBack start v found answer left w step place → AnswersBack start v prepared (to_fault answer) w step place
answers_back start v prepared (Ok x) w step place found left takes = (found, left, takes)
answers_back start v prepared (Err e) w step place found left takes = (found, left, takes)

pub finds : {T : Type 0} (start : State) (v : Known) (answer : T) (w : Known) (says : State → T → Type 0) (found : State) → Found start v found answer w says → Finds start v (Ok answer) w says
finds start v answer w says found is = (found, is)

pub takes_out : {T : Type 0} (start : State) (v : Known) (answer : T) (w : Known) (says : State → T → Type 0) (found : State) → TakesOut start v found answer w says → Empties start v (Ok answer) w says
takes_out start v answer w says found is = (found, is)

-- that it was taken out, and nothing of what
pub only_taken : {T : Type 0} (start : State) (v : Known) (x : T) (w : Known) (says : State → T → Type 0) → Empties start v (let r : Result T WentBack = Ok x in r) w says
    → Empties start v (let r : Result (Unit {0}) WentBack = Ok tt in r) w (λ c y. y ≡ tt)
only_taken start v x w says a = (a.0, (a.1.0, a.1.1, a.1.2, refl, a.1.4, a.1.5, a.1.6, a.1.7, a.1.8, a.1.9))

pub answers_so : {T E : Type 0} (start : State) (v : Known) (answer : Result T E) (told : Result T (SharedFault E)) (w : Known) (step : State → Result T E → State → Type 0) (place : T → Option ℕ) (found left : State)
    → told ≡ reported answer → Takes start v found answer left w step place → Answers start v told w step place
answers_so start v answer told w step place found left is takes = subst (λ r. Answers start v r w step place) (sym is) (answers start v answer w step place found left takes)

pub answers_back_so : {T E P : Type 0} (start : State) (v : Known) (prepared : P) (answer : Result T (E × P)) (told : Result T (SharedFault E × P)) (w : Known) (step : State → Result T (E × P) → State → Type 0) (place : T → Option ℕ) (found left : State)
    → told ≡ to_fault answer → TakesBack start v found answer left w step place → AnswersBack start v prepared told w step place
answers_back_so start v prepared answer told w step place found left is takes =
    subst (λ r. AnswersBack start v prepared r w step place) (sym is) (answers_back start v prepared answer w step place found left takes)

-- of a call that leaves what was prepared with its caller
answers_kept : {T E P : Type 0} (start : State) (v : Known) (prepared : P) (answer : Result T E) (w : Known) (step : State → Result T (E × P) → State → Type 0) (place : T → Option ℕ) (found left : State)
    → TakesBack start v found answer left w (λ c r d. step c (given_back prepared r) d) place → AnswersBack start v prepared (to_fault (given_back prepared answer)) w step place
answers_kept start v prepared (Ok x) w step place found left takes = (found, left, takes)
answers_kept start v prepared (Err e) w step place found left takes = (found, left, takes)

pub answers_kept_so : {T E P : Type 0} (start : State) (v : Known) (prepared : P) (answer : Result T E) (told : Result T (SharedFault E × P)) (w : Known) (step : State → Result T (E × P) → State → Type 0) (place : T → Option ℕ) (found left : State)
    → told ≡ to_fault (given_back prepared answer) → TakesBack start v found answer left w (λ c r d. step c (given_back prepared r) d) place → AnswersBack start v prepared told w step place
answers_kept_so start v prepared answer told w step place found left is takes =
    subst (λ r. AnswersBack start v prepared r w step place) (sym is) (answers_kept start v prepared answer w step place found left takes)
