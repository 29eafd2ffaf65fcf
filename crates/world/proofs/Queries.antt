-- Each answer of a query under a lease, and what it says of the state.
use Rattle.std.proofs.Common.{◌≡◌, ℕ, ◌<◌, ◌≤◌, List, Option, Some, Ok, Err, refl, sym, subst, ◌∙◌, ◌⊎◌, inl, inr, arith}
use Rattle.collections.specs.Refusal.{IsClear, IsFirst}
use Rattle.lease.specs.declared.lease.Lease.{Lease}
use Rattle.lease.specs.declared.fault.LeaseFault.{LeaseFault}
use Rattle.lease.specs.declared.fault.LeaseFault.TheVariants as lease_fault
use Rattle.lease.specs.Refusals.{Serves, Condition as LeaseCondition, rank as lease_rank}
use Rattle.lease.specs.Timeline.{Timeline}
use Rattle.row_map.specs.declared.shape.Row.{Row}
use Rattle.row_map.specs.Rows.{Rows, Pairs}
use Rattle.element_state.specs.Consistent.{IsConsistent}
use Rattle.element_state.specs.Visible.{visible_rows}
use Rattle.row_query.specs.declared.fault.QueryFault.{QueryFault}
use Rattle.row_query.specs.declared.fault.QueryFault.TheVariants.{NoTable, NotPublic, WrongType, Memory}
use Rattle.row_query.specs.declared.query.Query.{Query as Asked}
use Rattle.row_query.specs.declared.query.Cond.TheVariants.{Key, Equal, Between}
use Rattle.row_query.specs.Answer.{plain_answer}
use Rattle.row_query.specs.Refused.{Part, PartFault, IsRefused, IsSound}
use Rattle.row_query.specs.Refused.Part.{Named, Where}
use Rattle.schema_version.specs.Version.{Version, Table}
use Rattle.replay.specs.declared.entry.What.TheVariants.{Lease as Granted}
use Rattle.replay.specs.Replay.{Facts, version_at, after}
use Rattle.replay.specs.Kept.{IsKept}
use Rattle.replay.specs.Laws.{LeasesKeep, KeptAgrees}
use Rattle.world.specs.declared.query.QueryRefusal.{QueryRefusal}
use Rattle.world.specs.declared.query.QueryRefusal.TheVariants as refusal
use Rattle.world.specs.declared.world.World.TheInside.{Inside}
use Rattle.world.specs.Calls.{effective_moment}
use Rattle.world.specs.Query.{query_rank, QueryCondition, QueryAt, QueryStep}
use Rattle.world.specs.Inside.{state_of, IsHeld}
use Rattle.world.specs.State.{State, facts_of}
use Rattle.world.specs.Faults.{query_reported}
use Rattle.world.proofs.Invariant.{follow_of, kept_of, later}

-- ---- a lease that does not serve

pub last : (fault : QueryFault) → 4 ≤ query_rank (refusal.Query fault)
last NoTable = omega arith
last (NotPublic column) = omega arith
last WrongType = omega arith
last Memory = omega arith

lease_lower : (s : State) (now : ℕ) (lease : Lease) (query : Asked) (rank : ℕ) → rank ≤ 3 → ((other : LeaseFault) → lease_rank other < rank → ¬ (LeaseCondition (facts_of s).line lease now other))
    → (other : QueryRefusal) → query_rank other < rank → ¬ (QueryCondition s now lease query other)
lease_lower s now lease query rank le none refusal.MomentTooLarge lt = none lease_fault.MomentTooLarge lt
lease_lower s now lease query rank le none refusal.BadLease lt = none lease_fault.BadLease lt
lease_lower s now lease query rank le none (refusal.LeaseEnded until counted_at) lt = none (lease_fault.LeaseEnded until counted_at) lt
lease_lower s now lease query rank le none (refusal.Query fault) lt = λ c. absurd (omega (arith, lt, le, last fault))

unserved_at : (s : State) (now : ℕ) (lease : Lease) (query : Asked) (fault : LeaseFault) → IsFirst lease_rank (LeaseCondition (facts_of s).line lease now) fault → QueryAt s now lease query (Err (query_reported fault))
unserved_at s now lease query lease_fault.MomentTooLarge first = (inr first.0, lease_lower s now lease query 1 (omega arith) first.1)
unserved_at s now lease query lease_fault.BadLease first = (inr first.0, lease_lower s now lease query 2 (omega arith) first.1)
unserved_at s now lease query (lease_fault.LeaseEnded until at) first = (inr first.0, lease_lower s now lease query 3 (omega arith) first.1)

pub query_unserved : (f : Inside) (s : State) (moment now : ℕ) (lease : Lease) (query : Asked) (fault : LeaseFault) (as_reported : QueryRefusal) → IsHeld f → state_of f ≡ s → now ≡ effective_moment s moment
    → IsFirst lease_rank (LeaseCondition f.line lease now) fault → as_reported ≡ query_reported fault → QueryStep s moment lease query (Err as_reported)
query_unserved f s moment now lease query fault as_reported h view counted_at first is =
    let on_line : IsFirst lease_rank (LeaseCondition (facts_of s).line lease now) fault = subst (λ (l : Timeline). IsFirst lease_rank (LeaseCondition l lease now) fault) ((follow_of f s h view).line) first in
    subst (λ (r : QueryRefusal). QueryStep s moment lease query (Err r)) (sym is)
    (subst (λ (n : ℕ). QueryAt s n lease query (Err (query_reported fault))) counted_at (unserved_at s now lease query fault on_line))

-- ---- a query that has a fault

abbrev pub HasOneRefusal : Type 0
HasOneRefusal = (version : Version) (query : Asked) → IsSound version query → IsClear (IsRefused version query)

served_lower : (s : State) (now : ℕ) (lease : Lease) (query : Asked) → Serves (facts_of s).line lease now → (other : QueryRefusal) → query_rank other < 4 → ¬ (QueryCondition s now lease query other)
served_lower s now lease query v refusal.MomentTooLarge lt = λ c. absurd (omega (arith, v.moment, c))
served_lower s now lease query v refusal.BadLease lt = λ none. none v.honest
served_lower s now lease query v (refusal.LeaseEnded until counted_at) lt = λ c. c.2 v.in_force
served_lower s now lease query v (refusal.Query fault) lt = λ c. absurd (omega (arith, lt, last fault))

some_same : {a b : Version} → Some a ≡ (let o : Option Version = Some b in o) → a ≡ b
some_same e = cc

-- a sound query has no fault
sound_none : (s : State) (now : ℕ) (lease : Lease) (query : Asked) (version : Version) → version_at (facts_of s) lease.version ≡ Some version → IsSound version query → HasOneRefusal
    → (fault : QueryFault) → ¬ (QueryCondition s now lease query (refusal.Query fault))
sound_none s now lease query version at sound one NoTable = λ c. one version query sound NoTable (subst (λ (v : Version). IsRefused v query NoTable) (some_same (sym c.1 ∙ at)) c.2)
sound_none s now lease query version at sound one (NotPublic column) = λ c. one version query sound (NotPublic column) (subst (λ (v : Version). IsRefused v query (NotPublic column)) (some_same (sym c.1 ∙ at)) c.2)
sound_none s now lease query version at sound one WrongType = λ c. one version query sound WrongType (subst (λ (v : Version). IsRefused v query WrongType) (some_same (sym c.1 ∙ at)) c.2)
sound_none s now lease query version at sound one Memory = λ c. c

-- nothing of the lease stands against an answer
abbrev pub NoneBelow : State → ℕ → Lease → Asked → Type 0
NoneBelow s now lease query = (other : QueryRefusal) → query_rank other < 4 → ¬ (QueryCondition s now lease query other)

-- where besides the query is sound, nothing stands against an answer
pub clear : (s : State) (now : ℕ) (lease : Lease) (query : Asked) (version : Version) → NoneBelow s now lease query → version_at (facts_of s) lease.version ≡ Some version → IsSound version query → HasOneRefusal
    → IsClear (QueryCondition s now lease query)
clear s now lease query version lower at sound one refusal.MomentTooLarge = lower refusal.MomentTooLarge (omega arith)
clear s now lease query version lower at sound one refusal.BadLease = lower refusal.BadLease (omega arith)
clear s now lease query version lower at sound one (refusal.LeaseEnded until counted_at) = lower (refusal.LeaseEnded until counted_at) (omega arith)
clear s now lease query version lower at sound one (refusal.Query fault) = sound_none s now lease query version at sound one fault

no_memory : (version : Version) (number : ℕ) (table : Table) (part : Part) → ¬ (PartFault version number table part Memory)
no_memory version number table (Named column) = λ c. c
no_memory version number table (Where (Key key)) = λ c. c
no_memory version number table (Where (Equal column value)) = λ c. c
no_memory version number table (Where (Between column low high)) = λ c. c

pub faulty_at : (s : State) (now : ℕ) (lease : Lease) (query : Asked) (version : Version) (fault : QueryFault) → NoneBelow s now lease query → version_at (facts_of s) lease.version ≡ Some version → HasOneRefusal
    → ((fault ≡ Memory) × IsSound version query) ⊎ IsRefused version query fault → QueryAt s now lease query (Err (refusal.Query fault))
faulty_at s now lease query version fault lower at one (inl short) =
    subst (λ (x : QueryFault). QueryAt s now lease query (Err (refusal.Query x))) (sym short.0) (inl refl, λ other lt. clear s now lease query version lower at short.1 one other)
faulty_at s now lease query version NoTable lower at one (inr is) = (inr (version, at, is), lower)
faulty_at s now lease query version (NotPublic column) lower at one (inr is) = (inr (version, at, is), lower)
faulty_at s now lease query version WrongType lower at one (inr is) = (inr (version, at, is), lower)
faulty_at s now lease query version Memory lower at one (inr is) = absurd (no_memory version query.table is.0 is.2.2 is.2.4.0)

-- ---- in the words of the call

-- the fields of a world, a lease that serves, and the schema of its version
pub record IsServed (f : Inside) (s : State) (moment now : ℕ) (lease : Lease) (schema : Version) : Type 0 where
  pub held : IsHeld f
  pub view : state_of f ≡ s
  pub counts : now ≡ effective_moment s moment
  pub serves : Serves (facts_of s).line lease now
  pub schema_is : version_at (facts_of s) lease.version ≡ Some schema

pub query_faulty : (f : Inside) (s : State) (moment now : ℕ) (lease : Lease) (query : Asked) (schema : Version) (fault : QueryFault) (as_reported : QueryRefusal) → IsServed f s moment now lease schema → HasOneRefusal
    → ((fault ≡ Memory) × IsSound schema query) ⊎ IsRefused schema query fault → as_reported ≡ refusal.Query fault → QueryStep s moment lease query (Err as_reported)
query_faulty f s moment now lease query schema fault as_reported v one is reported =
    subst (λ (r : QueryRefusal). QueryStep s moment lease query (Err r)) (sym reported)
    (subst (λ (n : ℕ). QueryAt s n lease query (Err (refusal.Query fault))) v.counts (faulty_at s now lease query schema fault (served_lower s now lease query v.serves) v.schema_is one is))

-- time goes by up to the moment that counts, and the lease's version still counts then
consistent_now : (facts : Facts) (now : ℕ) (lease : Lease) (schema : Version) → LeasesKeep → KeptAgrees → IsKept facts → facts.moment ≤ now → Serves facts.line lease now → version_at facts lease.version ≡ Some schema → IsConsistent schema facts.rows facts.pairs
consistent_now facts now lease schema goes agrees k after_last v at =
    agrees (after facts (record { moment = now; what = Granted lease })) (goes facts now lease after_last k) lease.version schema (lease, refl, v.honest, v.in_force) at

-- the store agrees with the rows of the log
pub consistent_held : (f : Inside) (s : State) (moment now : ℕ) (lease : Lease) (schema : Version) → LeasesKeep → KeptAgrees → IsServed f s moment now lease schema → IsConsistent schema (facts_of s).rows f.store
consistent_held f s moment now lease schema goes agrees v =
    subst (λ (p : Pairs). IsConsistent schema (facts_of s).rows p) (sym (follow_of f s v.held v.view).pairs)
    (consistent_now (facts_of s) now lease schema goes agrees (kept_of f s v.held v.view) (later f s moment now v.counts) v.serves v.schema_is)

pub query_answered : (f : Inside) (s : State) (moment now : ℕ) (lease : Lease) (query : Asked) (schema : Version) (found : List Row) → LeasesKeep → KeptAgrees → IsServed f s moment now lease schema → HasOneRefusal → IsSound schema query
    → ((rows : Rows) → IsConsistent schema rows f.store → found ≡ plain_answer (visible_rows schema rows) query) → QueryStep s moment lease query (Ok found)
query_answered f s moment now lease query schema found goes agrees v one sound answers =
    subst (λ (n : ℕ). QueryAt s n lease query (Ok found)) v.counts
    (clear s now lease query schema (served_lower s now lease query v.serves) v.schema_is sound one, (schema, v.schema_is, answers (facts_of s).rows (consistent_held f s moment now lease schema goes agrees v)))
