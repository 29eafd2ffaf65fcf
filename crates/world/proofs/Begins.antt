-- The begin of a reorganisation over the fields of a World.
use Rattle.std.proofs.Common.{◌≡◌, ℕ, ◌≤◌, List, [], ◌∷◌, ◌++◌, Option, Some, None, refl, sym, ap, subst, ◌∙◌, Vec, Global}
use Rattle.std.specs.Option.{option_and_then}
use Rattle.schema_version.specs.declared.element.ElementDef.{ElementDef}
use Rattle.schema_version.specs.Edges.{wanted_work}
use Rattle.schema_version.specs.Version.{element_at, state_of, state_or_absent}
use Rattle.schema_version.specs.declared.element.Work.{Work}
use Rattle.reorganise.specs.declared.work.Progress.{Progress}
use Rattle.replay.specs.declared.entry.Entry.{Entry}
use Rattle.replay.specs.declared.entry.What.TheVariants.{Begin}
use Rattle.replay.specs.Headline.{MayFollow}
use Rattle.replay.specs.Replay.{Facts, begun_by, begun_of}
use Rattle.replay.specs.Kept.{used_before}
use Rattle.replay.specs.Laws.{BeginsKeep}
use Rattle.world.specs.declared.entry.Receipt.{Receipt}
use Rattle.world.specs.declared.log.Log.{Log}
use Rattle.world.specs.declared.world.World.TheInside.{Inside}
use Rattle.world.specs.BeginReorg.{wanted_at, IsSettled, Begins}
use Rattle.world.specs.Inside.{state_of as state_in, IsHeld}
use Rattle.world.specs.State.{State, facts_of, effect}
use Rattle.world.proofs.Invariant.{IsLogged, state_logged, held_after}

-- ---- what an element wants

none_some : {A B : Type 0} {v : A} → None ≡ Some v → B
none_some e = absurd cc

some_one : {A : Type 0} {v w : A} → Some v ≡ (let o : Option A = Some w in o) → v ≡ w
some_one e = cc

wants_some : (facts : Facts) (number : ℕ) (element : ElementDef) (work : Work) → element_at facts.newest number ≡ Some element → wanted_work element ≡ Some work → wanted_at facts number ≡ Some work
wants_some facts number element work there wants = ap (option_and_then wanted_work) there ∙ wants

-- ---- the fields after a begin

abbrev pub begin_entry : ℕ → ℕ → ℕ → Entry
begin_entry now number pieces = record { moment = now; what = Begin number pieces }

abbrev pub after_begin : Inside → Vec Progress Global → Log → Inside
after_begin f begun log = record f { begun = begun; log = log }

begin_state : (f : Inside) (now number pieces : ℕ) (begun : Vec Progress Global) (log : Log) (receipt : Receipt) → IsLogged f.log (begin_entry now number pieces) receipt log
    → state_in (after_begin f begun log) ≡ effect (state_in f) (begin_entry now number pieces)
begin_state f now number pieces begun log receipt e = state_logged f (after_begin f begun log) (begin_entry now number pieces) receipt e refl

-- the element's state is the newest version's
own_state : (facts : Facts) (now number : ℕ) (element : ElementDef) → element_at facts.newest number ≡ Some element → IsSettled facts now number → state_of (used_before facts now) number ≡ element.state
own_state facts now number element there settled = settled ∙ ap state_or_absent there

begun_is : (facts : Facts) (now number pieces : ℕ) (progress : Progress) (b : Begins facts now number pieces progress) → begun_of (element_at facts.newest number) facts.pairs pieces ≡ progress ∷ []
begun_is facts now number pieces progress b =
    ap (λ (o : Option ElementDef). begun_of o facts.pairs pieces) b.there ∙ ap (λ (o : Option Work). begun_by b.element o facts.pairs pieces) b.wants ∙ ap (λ (p : Progress). p ∷ []) (sym b.begun_so)

pub begin_held : (f : Inside) (s : State) (now number pieces : ℕ) (progress : Progress) (begun : Vec Progress Global) (log : Log) (receipt : Receipt) → BeginsKeep → IsHeld f → state_in f ≡ s → (facts_of s).moment ≤ now → Begins (facts_of s) now number pieces progress
    → begun.items ≡ f.begun.items ++ progress ∷ [] → IsLogged f.log (begin_entry now number pieces) receipt log → IsHeld (after_begin f begun log)
begin_held f s now number pieces progress begun log receipt law h view later_s b_s grown e =
    let w = h.follow in
    let b : Begins (facts_of (state_in f)) now number pieces progress = subst (λ (x : State). Begins (facts_of x) now number pieces progress) (sym view) b_s in
    held_after f (after_begin f begun log) (begin_entry now number pieces) (begin_state f now number pieces begun log receipt e)
    (record {
      moment = e.moment;
      line = w.line;
      newest = w.newest;
      before = w.before;
      begun = grown ∙ ap (λ (ps : List Progress). ps ++ progress ∷ []) w.begun ∙ ap (λ (ps : List Progress). (facts_of (state_in f)).progress ++ ps) (sym (begun_is (facts_of (state_in f)) now number pieces progress b));
      pairs = w.pairs;
    })
    (law (facts_of (state_in f)) now number pieces b.element b.work (subst (λ (x : State). (facts_of x).moment ≤ now) (sym view) later_s) b.there b.wants (own_state (facts_of (state_in f)) now number b.element b.there b.settled) b.new b.count h.kept)

-- it may follow
pub begin_follows : (facts : Facts) (now number pieces : ℕ) (progress : Progress) → Begins facts now number pieces progress → MayFollow facts now (Begin number pieces)
begin_follows facts now number pieces progress b =
    record { element = b.element; work = b.work; there = b.there; wants = b.wants; settled = own_state facts now number b.element b.there b.settled; new = b.new; count = b.count }
