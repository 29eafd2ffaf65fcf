-- A transaction repeated.
use Rattle.std.proofs.Common.{◌≡◌, ℕ, ◌+◌, ◌≤◌, List, [], ◌∷◌, ◌++◌, length, Option, Some, None, Ok, Err, refl, sym, ap, subst, ◌∙◌, inl, inr, arith, Bool, true, false, cond, eq-eqb}
use Rattle.std.specs.Prelude.{◌==◌, ◌||◌, IsNone, ◌↔◌}
use Rattle.std.specs.List.{AllByRecursion}
use Rattle.std.specs.FinMap as map
use Rattle.keycode.specs.declared.value.Value.{Value}
use Rattle.keycode.specs.Order.{bytes_cmp}
use Rattle.lease.specs.declared.lease.Lease.{Lease}
use Rattle.lease.specs.Refusals.{Serves}
use Rattle.lease.specs.Timeline.{IsHonest, IsInForce, IsUsable, IsLastTwo, newest as newest_number, max_moment}
use Rattle.lease.proofs.Uses.{usable_last}
use Rattle.collections.specs.Refusal.{IsRefusal}
use Rattle.row_map.specs.Expect.{Holds, View}
use Rattle.row_map.specs.Rows.{Bytes, Rows}
use Rattle.schema_version.specs.Version.{Version, Table, table_at}
use Rattle.row_write.specs.declared.fault.PrepareFault.{PrepareFault}
use Rattle.row_write.specs.declared.fault.PrepareFault.TheVariants.{NoTable, NotPublic, WrongType, TooManyOps, ViewMismatch, Memory as NoMemory}
use Rattle.row_write.specs.declared.fault.RowFault.{RowFault}
use Rattle.row_write.specs.declared.op.RowOp.{RowOp}
use Rattle.row_write.specs.declared.op.RowOutcome.TheVariants.{Done, Refused}
use Rattle.row_write.specs.Made.{PreparedTxn, IsSound, IsMade, expects}
use Rattle.row_write.specs.Plain.{table_of, outcome}
use Rattle.row_write.specs.Prepare.{Condition, rank, max_ops, Encodes, HasColumn, IsTyped}
use Rattle.row_write.specs.Reads.{IsRead}
use Rattle.replay.specs.declared.entry.What.{What}
use Rattle.replay.specs.declared.entry.What.TheVariants.{Txn}
use Rattle.replay.specs.Kept.{IsKept, used_before}
use Rattle.replay.specs.Replay.{Facts, version_at}
use Rattle.replay.proofs.Agree.{counts_still}
use Rattle.replay.proofs.Soundness.{fits, small}
use Rattle.replay.proofs.Encoding.{Agreeing, encodes}
use Rattle.replay.proofs.Time.{at, kept_later}
use Rattle.world.specs.declared.committed.Committed.{Committed}
use Rattle.world.specs.declared.committed.Committed.TheVariants as committed
use Rattle.world.specs.declared.commit.CommitFault.{CommitFault}
use Rattle.world.specs.declared.commit.CommitFault.TheVariants as commit_fault
use Rattle.world.specs.declared.entry.Receipt.{Receipt}
use Rattle.world.specs.Calls.{CommitCondition, CommitAt, CommitStep, Appends, IsReadView}
use Rattle.world.specs.State.{State, facts_of, recent, IsReplayed}
use Rattle.replica.specs.declared.fault.RepeatFault.{RepeatFault}
use Rattle.replica.specs.declared.fault.RepeatFault.TheVariants.{NotNext, Memory}
use Rattle.replica.specs.Next.{IsNextTxn, RepeatAt}
use Rattle.replica.specs.inner.Prepared.{IsPreparedOf, IsUnfit}
use Rattle.replica.proofs.Moments.{effective_now}
use Rattle.replica.proofs.Options.{some_one, none_some, order}

-- ---- what is prepared

pub view_holds : (s : State) (keys : map.FinMap bytes_cmp (Unit {0})) (view : View) → IsReadView s keys view → Holds (expects view) s.pairs
view_holds s keys view is key missed = elim missed [
  | inl m ↦ m.2 (((is key m.0).0 m.1).1)
  | inr none ↦ none
]

pub unfit_by : (s : State) (version v : Version) (ops o copy : List RowOp) (keys : map.FinMap bytes_cmp (Unit {0})) (view : View) (fault : PrepareFault) → v ≡ version → o ≡ ops → copy ≡ ops
    → ((key : Bytes) → (map.get keys key ≡ Some tt) ↔ IsRead v o key) → IsReadView s keys view → IsRefusal rank (Condition version copy view) NoMemory fault → (fault ≡ NoMemory → ⊥) → IsUnfit s version ops
unfit_by s version v ops o copy keys view fault v_is o_is same read is refused never =
    let read_so : (key : Bytes) → (map.get keys key ≡ Some tt) ↔ IsRead version ops key
    = subst (λ (x : Version). (key : Bytes) → (map.get keys key ≡ Some tt) ↔ IsRead x ops key) v_is (subst (λ (x : List RowOp). (key : Bytes) → (map.get keys key ≡ Some tt) ↔ IsRead v x key) o_is read) in
    record {
      view = view;
      keys = λ key. (λ r. (map.get s.pairs key, (is key (map.get s.pairs key)).1 ((read_so key).1 r, refl)), λ v. (read_so key).0 (((is key v.0).0 v.1).0));
      holds = view_holds s keys view is;
      fault = fault;
      why = subst (λ (o : List RowOp). Condition version o view fault) same (elim refused.0 [ inl e ↦ absurd (never e) | inr why ↦ why ]);
    }

-- ---- no such transaction can be repeated

no_serve : (s : State) (now : ℕ) (lease : Lease) (ops : List RowOp) → (Serves (facts_of s).line lease now → ⊥) → IsNextTxn s now lease ops → ⊥
no_serve s now lease ops never next =
    let honest = subst (λ (l : Lease). ¬ (¬ (IsHonest (facts_of s).line now l))) next.lease_is (next.clear commit_fault.BadLease) in
    let in_force = subst (λ (l : Lease). ¬ (¬ (IsInForce l now))) next.lease_is (λ f. next.clear (commit_fault.LeaseEnded next.prepared.lease.until now) (refl, refl, f)) in
    elim (order now max_moment) [
      | inl le ↦ honest (λ h. in_force (λ f. never (record { moment = le; honest = h; in_force = f })))
      | inr gt ↦ next.clear commit_fault.MomentTooLarge gt
    ]

recent_by : (facts : Facts) (number : ℕ) (b c : Bool) → (number == newest_number facts.line) ≡ b → (number + 1 == newest_number facts.line) ≡ c → recent facts number ≡ cond (b || c) (version_at facts number) None
recent_by facts number b c here next = λ i. cond (here i || next i) (version_at facts number) None

or_true : (b : Bool) → (b || true) ≡ true
or_true true = refl
or_true false = refl

recent_last : (facts : Facts) (number : ℕ) → IsLastTwo facts.line number → recent facts number ≡ version_at facts number
recent_last facts number last = elim last [
  | inl is ↦ recent_by facts number true (number + 1 == newest_number facts.line) (eq-eqb number (newest_number facts.line) is) refl
  | inr is ↦ recent_by facts number (number == newest_number facts.line) true refl (eq-eqb (number + 1) (newest_number facts.line) is.1) ∙ ap (λ (b : Bool). cond b (version_at facts number) None) (or_true (number == newest_number facts.line))
]

no_version : (s : State) (now : ℕ) (lease : Lease) (ops : List RowOp) → (facts_of s).moment ≤ now → IsKept (facts_of s) → Serves (facts_of s).line lease now → recent (facts_of s) lease.version ≡ None → IsNextTxn s now lease ops → ⊥
no_version s now lease ops later k v none next =
    let last = usable_last (facts_of s).line lease.version now k.valid (omega (arith, k.since, later)) (lease, refl, v.honest, v.in_force) in
    let gone : version_at (facts_of s) lease.version ≡ None = sym (recent_last (facts_of s) lease.version last) ∙ none in
    next.clear commit_fault.WrongSchema (λ is. none_some (sym gone ∙ ap (λ (l : Lease). version_at (facts_of s) l.version) (sym next.lease_is) ∙ is))

at_middle : {A : Type 0} (P : A → Type 0) (before after : List A) (x : A) → AllByRecursion P (before ++ x ∷ after) → P x
at_middle P [] after x all = all.0
at_middle P (b ∷ before) after x all = at_middle P before after x all.1

none_known : {A : Type 0} (o : Option A) (x : A) → o ≡ Some x → IsNone o → ⊥
none_known None x e n = none_some e
none_known (Some y) x e n = absurd cc

faultless : (version : Version) (ops : List RowOp) (view : View) (rows : Rows) (fault : PrepareFault) → AllByRecursion (IsSound version) ops → length ops ≤ max_ops → Encodes version ops view rows → Condition version ops view fault → ⊥
faultless version ops view rows NoTable sound few encoded w =
    let s : IsSound version w.2 = at_middle (IsSound version) w.0 w.1 w.2 (subst (AllByRecursion (IsSound version)) w.3 sound) in
    none_known (table_at version (table_of w.2)) s.table s.known w.4.0
faultless version ops view rows (NotPublic column) sound few encoded w =
    let s : IsSound version w.2 = at_middle (IsSound version) w.0 w.1 w.2 (subst (AllByRecursion (IsSound version)) w.3 sound) in
    let h = w.4.0 in
    h.4 (at_middle (λ (named : ℕ × Value). HasColumn version (table_of w.2) named.0) h.0 h.1 (column, h.2) (subst (AllByRecursion (λ (named : ℕ × Value). HasColumn version (table_of w.2) named.0)) h.3 s.public))
faultless version ops view rows WrongType sound few encoded w =
    let s : IsSound version w.2 = at_middle (IsSound version) w.0 w.1 w.2 (subst (AllByRecursion (IsSound version)) w.3 sound) in
    let h = w.4.0 in
    h.2 (subst (λ (t : Table). IsTyped version t w.2) (some_one (sym s.known ∙ h.1)) s.typed)
faultless version ops view rows TooManyOps sound few encoded lt = absurd (omega (arith, few, lt))
faultless version ops view rows ViewMismatch sound few encoded never = never rows encoded
faultless version ops view rows NoMemory sound few encoded x = x

agreeing : (facts : Facts) (now number : ℕ) (version : Version) → facts.moment ≤ now → IsKept facts → IsUsable facts.line number now → version_at facts number ≡ Some version → Agreeing version facts.pairs facts.rows
agreeing facts now number version later kept usable there =
    let k : IsKept (at facts now) = kept_later facts now later kept in
    let before : Agreeing (used_before facts now) facts.pairs facts.rows
    = record { sound = k.sound_before; small = small (used_before facts now) k.sound_before; fit = fits (used_before facts now) k.sound_before; lawful = k.rows_before; held = k.core_kept.held; consistent = k.core_kept.before } in
    let newest : Agreeing facts.newest facts.pairs facts.rows
    = record { sound = k.sound; small = small facts.newest k.sound; fit = fits facts.newest k.sound; lawful = k.rows; held = k.core_kept.held; consistent = k.core_kept.newest } in
    elim (counts_still (at facts now) k number version usable there) [
      | inl e ↦ subst (λ (v : Version). Agreeing v facts.pairs facts.rows) (sym e) before
      | inr e ↦ subst (λ (v : Version). Agreeing v facts.pairs facts.rows) (sym e) newest
    ]

no_fit : (s : State) (now : ℕ) (lease : Lease) (ops : List RowOp) (version : Version) → (facts_of s).moment ≤ now → IsKept (facts_of s) → IsReplayed s → Serves (facts_of s).line lease now → version_at (facts_of s) lease.version ≡ Some version
    → IsUnfit s version ops → IsNextTxn s now lease ops → ⊥
no_fit s now lease ops version later k replayed v there unfit next = next.clear commit_fault.WrongSchema (λ is. by (some_one (sym is ∙ ap (λ (l : Lease). version_at (facts_of s) l.version) next.lease_is ∙ there)))
  where
    by : next.prepared.schema ≡ version → ⊥
    by same =
        let sound : AllByRecursion (IsSound version) ops = subst (λ (x : Version). AllByRecursion (IsSound x) ops) same (subst (AllByRecursion (IsSound next.prepared.schema)) next.ops_are next.made.sound) in
        let few : length ops ≤ max_ops = subst (λ (o : List RowOp). length o ≤ max_ops) next.ops_are next.made.few in
        let fit = agreeing (facts_of s) now lease.version version later k (lease, refl, v.honest, v.in_force) there in
        faultless version ops unfit.view (facts_of s).rows unfit.fault sound few
        (encodes version ops unfit.view (facts_of s).pairs (facts_of s).rows fit unfit.keys (subst (Holds (expects unfit.view)) replayed unfit.holds) sound) unfit.why

refused_by : (s : State) (now : ℕ) (lease : Lease) (ops : List RowOp) (fault : RepeatFault) → (fault ≡ NotNext → IsNextTxn s now lease ops → ⊥) → RepeatAt s now (Txn lease ops) (Err fault) s
refused_by s now lease ops NotNext f = (f refl, refl)
refused_by s now lease ops Memory f = refl

pub unserved : (s : State) (now : ℕ) (lease : Lease) (ops : List RowOp) → (Serves (facts_of s).line lease now → ⊥) → RepeatAt s now (Txn lease ops) (Err NotNext) s
unserved s now lease ops never = (no_serve s now lease ops never, refl)

pub unknown : (s : State) (now : ℕ) (lease : Lease) (ops : List RowOp) (fault reported : RepeatFault) → (facts_of s).moment ≤ now → IsKept (facts_of s) → Serves (facts_of s).line lease now → (fault ≡ NotNext → recent (facts_of s) lease.version ≡ None) → reported ≡ fault
    → RepeatAt s now (Txn lease ops) (Err reported) s
unknown s now lease ops fault reported later k v none is = refused_by s now lease ops reported (λ e next. no_version s now lease ops later k v (none (sym is ∙ e)) next)

pub unfitting : (s : State) (now : ℕ) (lease : Lease) (ops : List RowOp) (version : Version) (fault reported : RepeatFault) → (facts_of s).moment ≤ now → IsKept (facts_of s) → IsReplayed s → Serves (facts_of s).line lease now → version_at (facts_of s) lease.version ≡ Some version
    → (fault ≡ NotNext → IsUnfit s version ops) → reported ≡ fault → RepeatAt s now (Txn lease ops) (Err reported) s
unfitting s now lease ops version fault reported later k replayed v there unfit is = refused_by s now lease ops reported (λ e next. no_fit s now lease ops version later k replayed v there (unfit (sym is ∙ e)) next)

-- ---- the commit

commit_at : (s n : State) (now : ℕ) (p : PreparedTxn) (done : Committed) → (facts_of s).moment ≤ now → CommitStep s now p (Ok done) n → CommitAt s now p (Ok done) n
commit_at s n now p done later step = subst (λ (m : ℕ). CommitAt s m p (Ok done) n) (effective_now s now later) step

pub txn_done : (s n : State) (now : ℕ) (lease : Lease) (ops : List RowOp) (version : Version) (p : PreparedTxn) (receipt : Receipt) → (facts_of s).moment ≤ now → IsPreparedOf s version lease ops p → IsMade p → CommitStep s now p (Ok (committed.Done receipt)) n
    → RepeatAt s now (Txn lease ops) (Ok receipt) n
txn_done s n now lease ops version p receipt later of made step =
    let a = commit_at s n now p (committed.Done receipt) later step in (
      record { prepared = p; lease_is = of.lease_is; ops_are = of.ops_are; made = made; clear = a.0; done = ap (outcome (facts_of s).rows) (sym of.ops_are) ∙ a.1; holds = a.3 },
      subst (λ (w : What). Appends s now w receipt n) (λ i. Txn (of.lease_is i) (of.ops_are i)) a.2,
    )

pub txn_refused : (s n : State) (now : ℕ) (lease : Lease) (ops : List RowOp) (version : Version) (p : PreparedTxn) (op : ℕ) (why : RowFault) → (facts_of s).moment ≤ now → IsPreparedOf s version lease ops p → CommitStep s now p (Ok (committed.Refused op why)) n
    → RepeatAt s now (Txn lease ops) (Err NotNext) n
txn_refused s n now lease ops version p op why later of step =
    let a = commit_at s n now p (committed.Refused op why) later step in
    (λ next. not_both (sym a.1 ∙ ap (outcome (facts_of s).rows) of.ops_are ∙ next.done), a.2)
  where
    not_both : Refused op why ≡ Done → ⊥
    not_both wrong = cc

pub txn_failed : (s n : State) (now : ℕ) (lease : Lease) (ops : List RowOp) (version : Version) (p : PreparedTxn) (refusal : CommitFault × PreparedTxn) (reported : RepeatFault) → (facts_of s).moment ≤ now → Serves (facts_of s).line lease now
    → version_at (facts_of s) lease.version ≡ Some version → IsPreparedOf s version lease ops p → CommitStep s now p (Err refusal) n → (reported ≡ NotNext → refusal.0 ≡ commit_fault.Memory → ⊥) → RepeatAt s now (Txn lease ops) (Err reported) n
txn_failed s n now lease ops version p refusal reported later v there of step never = by reported never
  where
    a : CommitAt s now p (Err refusal.0) n
    a = subst (λ (m : ℕ). CommitAt s m p (Err refusal.0) n) (effective_now s now later) step.0

    none : (f : CommitFault) → CommitCondition s now p f → ⊥
    none commit_fault.MomentTooLarge lt = absurd (omega (arith, v.moment, lt))
    none commit_fault.BadLease not_honest = not_honest (subst (λ (l : Lease). IsHonest (facts_of s).line now l) (sym of.lease_is) v.honest)
    none (commit_fault.LeaseEnded until counted_at) c = c.2 (subst (λ (l : Lease). IsInForce l now) (sym of.lease_is) v.in_force)
    none commit_fault.WrongSchema other = other (ap (λ (l : Lease). version_at (facts_of s) l.version) of.lease_is ∙ there ∙ ap (λ (x : Version). Some x) (sym of.schema))
    none (commit_fault.Conflict key) c = of.holds key c.0
    none commit_fault.Memory x = x

    by : (t : RepeatFault) → (t ≡ NotNext → refusal.0 ≡ commit_fault.Memory → ⊥) → RepeatAt s now (Txn lease ops) (Err t) n
    by Memory f = a.1
    by NotNext f = (λ next. elim a.0.0 [ inl e ↦ f refl e | inr why ↦ none refusal.0 why ], a.1)
