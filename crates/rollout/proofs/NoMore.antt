-- No act adds to the pieces of an element and what is ahead of it.
use Rattle.std.proofs.Common.{◌≡◌, ◌≢◌, ℕ, zero, suc, ◌+◌, ◌*◌, ◌<◌, ◌≤◌, Bool, true, false, cond, List, [], ◌∷◌, ◌++◌, Option, Some, None, Ok, ◌⊎◌, inl, inr, refl, sym, ap, subst, ◌∙◌, arith, true≢false, nat_eq}
use Rattle.std.specs.Prelude.{slice_get, not, filter, ◌==◌}
use Rattle.std.proofs.lemmas.Bool.Decides.{Decides-eqb}
use Rattle.std.specs.declared.cmp.Ordering.TheVariants.{Less}
use Rattle.keycode.specs.Order.{bytes_cmp}
use Rattle.row_map.specs.Expect.{Holds}
use Rattle.row_map.specs.Rows.{Pairs}
use Rattle.schema_version.specs.declared.element.ElementDef.{ElementDef}
use Rattle.schema_version.specs.declared.step.Move.{Move}
use Rattle.schema_version.specs.Edges.{wanted_work}
use Rattle.schema_version.specs.Moves.{is_move_of, moves_element}
use Rattle.schema_version.specs.Version.{element_at}
use Rattle.schema_version.proofs.Along.{ordered_of}
use Rattle.schema_version.proofs.Entries.{tells}
use Rattle.schema_version.proofs.Lists.{any_says, some_same}
use Rattle.schema_version.proofs.StepEffects.{change_at}
use Rattle.reorganise.specs.declared.work.Span.{Span}
use Rattle.reorganise.specs.declared.work.Progress.{Progress}
use Rattle.reorganise.specs.declared.read.Reading.{Reading}
use Rattle.reorganise.specs.declared.fault.ViewFault.TheVariants.{BadLimit}
use Rattle.reorganise.specs.Batches.{expect_of}
use Rattle.reorganise.specs.Pieces.{begun, view_at}
use Rattle.replay.specs.declared.entry.Entry.{Entry}
use Rattle.replay.specs.declared.entry.What.{What}
use Rattle.replay.specs.declared.entry.What.TheVariants.{Publish, Begin, Piece}
use Rattle.replay.specs.Kept.{IsKept, IsBegun}
use Rattle.replay.specs.Laws.{IsPieceCount}
use Rattle.replay.specs.Replay.{Facts, after, begun_of, begun_by, is_of, pairs_by, progress_of, stays}
use Rattle.replay.proofs.Begun.{found, stayed}
use Rattle.world.specs.BeginReorg.{BeginStep}
use Rattle.world.specs.Calls.{effective_moment, Appends}
use Rattle.world.specs.Publish.{PublishStep}
use Rattle.world.specs.declared.entry.Receipt.{Receipt}
use Rattle.world.specs.State.{State, facts_of, IsReplayed}
use Rattle.piece_work.specs.WorkOff.{Round, Rounds}
use Rattle.rollout.specs.declared.act.Act.TheVariants as act
use Rattle.rollout.specs.Due.{IsDue, MayBegin, ready_moves}
use Rattle.rollout.specs.declared.advanced.Advanced.TheVariants as advanced
use Rattle.rollout.specs.Pieces.{piece_of, pieces_in, pieces_and_ahead, AdvancesTakeItems}
use Rattle.rollout.proofs.Ahead.{ahead_by, begun_ahead, moved_ahead}
use Rattle.rollout.proofs.CountLemmas.{facts_then, its_element, its_number, begun_made, not_of}
use Rattle.rollout.proofs.Ended.{one_round, other_begun}
use Rattle.rollout.proofs.Falls.{landed}
use Rattle.rollout.proofs.Few.{stays_by}
use Rattle.rollout.proofs.Ready.{ready_says, step_allowed}
use Rattle.rollout.proofs.Taking.{facts_ahead, kept_then, taken_here, taken_apart}

none_some : {A B : Type 0} {x : A} → None ≡ Some x → B
none_some e = absurd cc

-- the pieces of each element and what is ahead of it, together, have not grown
abbrev pub AddsNone : ℕ → ℕ → State → State → Type 0
AddsNone pieces limit old new = (k : ℕ) → limit * pieces_in k new.log + facts_ahead pieces limit (facts_of new) k ≤ limit * pieces_in k old.log + facts_ahead pieces limit (facts_of old) k

-- ---- the log

pieces_more : (k : ℕ) (log : List Entry) (e : Entry) → pieces_in k (log ++ e ∷ []) ≡ pieces_in k log + piece_of k e.what
pieces_more k [] e = omega arith
pieces_more k (x ∷ log) e = let rest = pieces_more k log e in omega (arith, rest)

pieces_then : (old new : State) (now : ℕ) (what : What) (receipt : Receipt) → Appends old now what receipt new → (k : ℕ) → pieces_in k new.log ≡ pieces_in k old.log + piece_of k what
pieces_then old new now what receipt a k = ap (λ (s : State). pieces_in k s.log) a.state ∙ pieces_more k old.log receipt.entry ∙ ap (λ (e : Entry). pieces_in k old.log + piece_of k e.what) a.entry

-- an entry that is no piece
quiet : (pieces limit : ℕ) (old new : State) (now : ℕ) (what : What) (receipt : Receipt) → Appends old now what receipt new → ((k : ℕ) → piece_of k what ≡ 0)
    → ((k : ℕ) → facts_ahead pieces limit (after (facts_of old) (record { moment = now; what = what })) k ≤ facts_ahead pieces limit (facts_of old) k) → AddsNone pieces limit old new
quiet pieces limit old new now what receipt a none least k =
    let same : pieces_in k new.log ≡ pieces_in k old.log = pieces_then old new now what receipt a k ∙ ap (λ (n : ℕ). pieces_in k old.log + n) (none k) ∙ (omega arith) in
    let log : limit * pieces_in k new.log ≡ limit * pieces_in k old.log = ap (λ (n : ℕ). limit * n) same in
    let less : facts_ahead pieces limit (facts_of new) k ≤ facts_ahead pieces limit (facts_of old) k
    = subst (λ (f : Facts). facts_ahead pieces limit f k ≤ facts_ahead pieces limit (facts_of old) k) (sym (facts_then old new now what receipt a)) (least k) in
    omega (arith, log, less)

-- ---- a begin

last_found : (ps : List Progress) (q : Progress) (n : ℕ) → is_of n q ≡ true → progress_of ps n ≡ None → progress_of (ps ++ q ∷ []) n ≡ Some q
last_found [] q n is none = ap (λ (b : Bool). let o : Option Progress = cond b (Some q) None in o) is
last_found (p ∷ ps) q n is none = by (is_of n p) (last_found ps q n is) none
  where
    by : (b : Bool) → (progress_of ps n ≡ None → progress_of (ps ++ q ∷ []) n ≡ Some q) → cond b (Some p) (progress_of ps n) ≡ None → cond b (Some p) (progress_of (ps ++ q ∷ []) n) ≡ Some q
    by true rest none = none_some (sym none)
    by false rest none = rest none

module _ (facts : Facts) (now number pieces limit : ℕ) (may : MayBegin facts now number) (kept : IsKept facts) (some : 0 < pieces) where
  abbrev then : Facts
  then = after facts (record { moment = now; what = Begin number pieces })

  begin_here : facts_ahead pieces limit then number ≤ facts_ahead pieces limit facts number
  begin_here =
      let e = its_element facts now number pieces may kept (element_at facts.newest number) refl may.wants in
      let own : e.0.number ≡ number = (kept.sound.elements number e.0 e.1).own in
      let q : Progress = begun e.0 may.work facts.pairs pieces in
      let made : begun_of (element_at facts.newest number) facts.pairs pieces ≡ q ∷ [] = ap (λ (o : Option ElementDef). begun_of o facts.pairs pieces) e.1 ∙ ap (λ (o : _). begun_by e.0 o facts.pairs pieces) e.2 in
      let there : progress_of then.progress number ≡ Some q = ap (λ (qs : List Progress). progress_of (facts.progress ++ qs) number) made ∙ last_found facts.progress q number ((Decides-eqb e.0.number number).1 own) may.new in
      let new : facts_ahead pieces limit then number ≡ ahead_by pieces limit facts.pairs (Some e.0) (Some q) = λ i. ahead_by pieces limit facts.pairs (e.1 i) (there i) in
      let old : facts_ahead pieces limit facts number ≡ ahead_by pieces limit facts.pairs (Some e.0) None = λ i. ahead_by pieces limit facts.pairs (e.1 i) (may.new i) in
      let less = begun_ahead pieces limit facts.pairs e.0 may.work some e.2 in
      omega (arith, new, old, less)

  begin_apart : (k : ℕ) → k ≢ number → facts_ahead pieces limit then k ≤ facts_ahead pieces limit facts k
  begin_apart k ne =
      let r = begun_made facts now number pieces may kept in
      let same : progress_of then.progress k ≡ progress_of facts.progress k = ap (λ (qs : List Progress). progress_of (facts.progress ++ qs) k) r.1 ∙ other_begun facts.progress r.0 k (not_of r.0 number k r.2 ne) in
      let is : facts_ahead pieces limit then k ≡ facts_ahead pieces limit facts k = ap (ahead_by pieces limit facts.pairs (element_at facts.newest k)) same in
      omega (arith, is)

  begin_least : (k : ℕ) → facts_ahead pieces limit then k ≤ facts_ahead pieces limit facts k
  begin_least k = by (tells k number)
    where
      by : ((nat_eq k number ≡ true) × (k ≡ number)) ⊎ ((nat_eq k number ≡ false) × (k ≢ number)) → facts_ahead pieces limit then k ≤ facts_ahead pieces limit facts k
      by (inl p) = subst (λ (j : ℕ). facts_ahead pieces limit then j ≤ facts_ahead pieces limit facts j) (sym p.1) begin_here
      by (inr p) = begin_apart k p.1

pub begin_adds_none : (old new : State) (now number pieces limit : ℕ) (receipt : Receipt) → IsPieceCount pieces → IsKept (facts_of old) → IsDue (facts_of old) (effective_moment old now) (act.Begin number) → BeginStep old now number pieces (Ok receipt) new → AddsNone pieces limit old new
begin_adds_none old new now number pieces limit receipt count kept d at =
    quiet pieces limit old new (effective_moment old now) (Begin number pieces) receipt at.1 (λ k. refl) (begin_least (facts_of old) (effective_moment old now) number pieces limit d.0 kept count.0)

-- ---- a step

-- a reorganisation stays as it is if its element does not move
same_stays : (step : List Move) (n : ℕ) → moves_element step n ≡ false → (ps : List Progress) → progress_of (filter (stays step) ps) n ≡ progress_of ps n
same_stays step n still [] = refl
same_stays step n still (p ∷ ps) = by (same_stays step n still ps) (is_of n p) refl (stays step p) refl
  where
    by : progress_of (filter (stays step) ps) n ≡ progress_of ps n → (b : Bool) → is_of n p ≡ b → (s : Bool) → stays step p ≡ s → progress_of (cond s (p ∷ filter (stays step) ps) (filter (stays step) ps)) n ≡ cond b (Some p) (progress_of ps n)
    by rest true is true kept = ap (λ (b : Bool). cond b (Some p) (progress_of (filter (stays step) ps) n)) is
    by rest true is false kept = absurd (true≢false (sym (ap not (ap (moves_element step) ((Decides-eqb p.element.number n).0 is) ∙ still)) ∙ kept))
    by rest false is true kept = ap (λ (b : Bool). cond b (Some p) (progress_of (filter (stays step) ps) n)) is ∙ rest
    by rest false is false kept = rest

-- and is over if it does
over : (step : List Move) (n : ℕ) → moves_element step n ≡ true → (ps : List Progress) → progress_of (filter (stays step) ps) n ≡ None
over step n moves ps = by (progress_of (filter (stays step) ps) n) refl
  where
    by : (o : Option Progress) → progress_of (filter (stays step) ps) n ≡ o → o ≡ None
    by None is = refl
    by (Some p) is = absurd (true≢false (sym moves ∙ (stayed step ps n p is).1))

module _ (facts : Facts) (now pieces limit : ℕ) (kept : IsKept facts) where
  abbrev next : Facts
  next = after facts (record { moment = now; what = Publish (ready_moves facts) })

  -- what is begun of an element is what it wants
  begun_wanted : (e : ElementDef) → element_at facts.newest e.number ≡ Some e → (p : Progress) → progress_of facts.progress e.number ≡ Some p → wanted_work e ≡ Some p.kind
  begun_wanted e there p is =
      let b = found (IsBegun facts.newest) facts.progress e.number p kept.begun is in
      let same : p.element ≡ e = some_same (sym b.0.element ∙ ap (element_at facts.newest) b.1 ∙ there) in
      ap wanted_work (sym same) ∙ b.0.wanted_so

  step_moved : (k : ℕ) → moves_element (ready_moves facts) k ≡ true → facts_ahead pieces limit next k ≤ facts_ahead pieces limit facts k
  step_moved k moves =
      let m = any_says (is_move_of k) (ready_moves facts) moves in
      let r = ready_says facts m.0 kept.sound m.1 in
      let e : ElementDef = r.0 in
      let own : e.number ≡ k = (Decides-eqb e.number k).0 (ap (is_move_of k) (sym r.1.is) ∙ m.2) in
      let land = landed facts kept.sound e m.0 r.1 m.1 in
      let gone : progress_of next.progress e.number ≡ None = over (ready_moves facts) e.number (ap (moves_element (ready_moves facts)) own ∙ moves) facts.progress in
      let less = moved_ahead pieces limit facts.pairs e r.1.to (progress_of facts.progress e.number) r.1.next (begun_wanted e r.1.there) in
      let new : facts_ahead pieces limit next e.number ≡ _ = λ i. ahead_by pieces limit facts.pairs (land i) (gone i) in
      let old : facts_ahead pieces limit facts e.number ≡ ahead_by pieces limit facts.pairs (Some e) (progress_of facts.progress e.number) = ap (λ (o : Option ElementDef). ahead_by pieces limit facts.pairs o (progress_of facts.progress e.number)) r.1.there in
      subst (λ (j : ℕ). facts_ahead pieces limit next j ≤ facts_ahead pieces limit facts j) own (omega (arith, new, old, less))

  step_still : (k : ℕ) → moves_element (ready_moves facts) k ≡ false → facts_ahead pieces limit next k ≤ facts_ahead pieces limit facts k
  step_still k still =
      let same : element_at next.newest k ≡ element_at facts.newest k = stays_by facts now kept.sound k (element_at next.newest k) still (change_at facts.newest (ready_moves facts) (step_allowed facts kept.sound) (ordered_of facts.newest kept.sound) k) in
      let begun_so : progress_of next.progress k ≡ progress_of facts.progress k = same_stays (ready_moves facts) k still facts.progress in
      let is : facts_ahead pieces limit next k ≡ facts_ahead pieces limit facts k = λ i. ahead_by pieces limit facts.pairs (same i) (begun_so i) in
      omega (arith, is)

  step_least : (k : ℕ) → facts_ahead pieces limit next k ≤ facts_ahead pieces limit facts k
  step_least k = by (moves_element (ready_moves facts) k) refl
    where
      by : (b : Bool) → moves_element (ready_moves facts) k ≡ b → facts_ahead pieces limit next k ≤ facts_ahead pieces limit facts k
      by true moves = step_moved k moves
      by false still = step_still k still

pub step_adds_none : (old new : State) (now : ℕ) (step : List Move) (done : ℕ × Receipt) (pieces limit : ℕ) → IsKept (facts_of old) → IsDue (facts_of old) (effective_moment old now) (act.Publish step) → PublishStep old now step (Ok done) new → AddsNone pieces limit old new
step_adds_none old new now step done pieces limit kept d at =
    quiet pieces limit old new (effective_moment old now) (Publish step) done.1 at.2 (λ k. refl)
    (subst (λ (ms : List Move). (k : ℕ) → facts_ahead pieces limit (after (facts_of old) (record { moment = effective_moment old now; what = Publish ms })) k ≤ facts_ahead pieces limit (facts_of old) k) (sym d.0.1)
    (step_least (facts_of old) (effective_moment old now) pieces limit kept))

-- ---- a round

-- all is kept, and no more is ahead
pub record IsWorkedOn (pieces limit : ℕ) (old new : State) : Type 0 where
  pub kept : IsKept (facts_of new)
  pub replayed : IsReplayed new
  pub adds_none : AddsNone pieces limit old new

module _ (pieces limit number moment : ℕ) (old new : State) (t : Round old number moment limit new) (kept : IsKept (facts_of old)) (replayed : IsReplayed old) where
  abbrev p : Progress
  p = t.read_so.0

  abbrev span : Span
  span = t.read_so.3.span

  abbrev now : ℕ
  now = effective_moment old moment

  some : 1 ≤ limit
  some = (let enough = t.read_so.2 BadLimit in by (λ h. enough (inl h)))
    where
      by : ¬ (limit < 1) → 1 ≤ limit
      by h = omega (arith, h)

  less : bytes_cmp span.cursor span.high ≡ Less
  less =
      let same : p ≡ t.next.progress = some_same (sym t.read_so.1 ∙ t.next.begun) in
      let one : span ≡ t.next.first.span = some_same (sym t.read_so.3.here ∙ ap (λ (q : Progress). slice_get q.pieces t.piece) same ∙ t.next.first.here) in
      ap (λ (s : Span). bytes_cmp s.cursor s.high) one ∙ t.next.first.unended

  its : t.read ≡ view_at p (facts_of old).pairs t.piece limit span
  its = t.read_so.3.read_is ∙ ap (λ (P : Pairs). view_at p P t.piece limit span) replayed

  own : t.read.element.number ≡ number
  own = ap (λ (r : Reading). r.element.number) its ∙ its_number (facts_of old).progress number p t.read_so.1

  later : (facts_of old).moment ≤ now
  later = omega arith

  holds : Holds (expect_of (view_at p (facts_of old).pairs t.piece limit span).key_range) (facts_of old).pairs
  holds = subst (λ (r : Reading). Holds (expect_of r.key_range) (facts_of old).pairs) its (subst (Holds (expect_of t.read.key_range)) replayed t.committed.3)

  entered : facts_of new ≡ after (facts_of old) (record { moment = now; what = Piece number t.piece (view_at p (facts_of old).pairs t.piece limit span).key_range.high })
  entered =
      facts_then old new now (Piece t.read.element.number t.read.piece t.read.key_range.high) t.done.receipt t.committed.2
      ∙ (λ i. after (facts_of old) (record { moment = now; what = Piece (own i) (its i).piece (its i).key_range.high }))

  replayed_on : IsReplayed new
  replayed_on =
      let what : What = Piece t.read.element.number t.read.piece t.read.key_range.high in
      let a = t.committed.2 in
      ap (λ (s : State). s.pairs) a.state
      ∙ ap (λ (e : Entry). pairs_by (facts_of old) old.pairs e.what) a.entry
      ∙ ap (λ (P : Pairs). pairs_by (facts_of old) P what) replayed
      ∙ sym (ap (λ (f : Facts). f.pairs) (facts_then old new now what t.done.receipt a))

  log_here : limit * pieces_in number new.log ≡ limit * pieces_in number old.log + limit
  log_here =
      let times : limit * (pieces_in number old.log + 1) ≡ limit * pieces_in number old.log + limit = grind arith in
      let more = pieces_then old new now (Piece t.read.element.number t.read.piece t.read.key_range.high) t.done.receipt t.committed.2 number in
      let one : cond (t.read.element.number == number) 1 0 ≡ 1 = ap (λ (b : Bool). cond b 1 0) ((Decides-eqb t.read.element.number number).1 own) in
      ap (λ (n : ℕ). limit * n) (more ∙ ap (λ (n : ℕ). pieces_in number old.log + n) one) ∙ times

  log_apart : (k : ℕ) → k ≢ number → limit * pieces_in k new.log ≡ limit * pieces_in k old.log
  log_apart k ne = by (t.read.element.number == k) refl (pieces_then old new now (Piece t.read.element.number t.read.piece t.read.key_range.high) t.done.receipt t.committed.2 k)
    where
      by : (b : Bool) → (t.read.element.number == k) ≡ b → pieces_in k new.log ≡ pieces_in k old.log + cond b 1 0 → limit * pieces_in k new.log ≡ limit * pieces_in k old.log
      by true is more = absurd (ne (sym ((Decides-eqb t.read.element.number k).0 is) ∙ own))
      by false is more = ap (λ (n : ℕ). limit * n) (omega (arith, more))

  here : facts_ahead pieces limit (facts_of new) number + limit ≤ facts_ahead pieces limit (facts_of old) number
  here =
      subst (λ (f : Facts). facts_ahead pieces limit f number + limit ≤ facts_ahead pieces limit (facts_of old) number) (sym entered)
      (taken_here (facts_of old) kept number p t.read_so.1 t.piece limit some span t.read_so.3.here less now later holds pieces)

  apart : (k : ℕ) → k ≢ number → facts_ahead pieces limit (facts_of new) k ≤ facts_ahead pieces limit (facts_of old) k
  apart k ne =
      subst (λ (f : Facts). facts_ahead pieces limit f k ≤ facts_ahead pieces limit (facts_of old) k) (sym entered)
      (taken_apart (facts_of old) kept number p t.read_so.1 t.piece limit some span t.read_so.3.here less now later holds pieces k ne
      (sym (ap (λ (f : Facts). progress_of f.progress k) entered) ∙ (one_round old new number moment limit t).others k ne))

  pub round_on : IsWorkedOn pieces limit old new
  round_on = record {
    kept = subst IsKept (sym entered) (kept_then (facts_of old) kept number p t.read_so.1 t.piece limit some span t.read_so.3.here less now later holds);
    replayed = replayed_on;
    adds_none = λ k. by k (tells k number);
  }
    where
      by : (k : ℕ) → ((nat_eq k number ≡ true) × (k ≡ number)) ⊎ ((nat_eq k number ≡ false) × (k ≢ number)) → limit * pieces_in k new.log + facts_ahead pieces limit (facts_of new) k ≤ limit * pieces_in k old.log + facts_ahead pieces limit (facts_of old) k
      by k (inl e) =
          subst (λ (j : ℕ). limit * pieces_in j new.log + facts_ahead pieces limit (facts_of new) j ≤ limit * pieces_in j old.log + facts_ahead pieces limit (facts_of old) j) (sym e.1)
          (let log = log_here in let taken = here in omega (arith, log, taken))
      by k (inr e) = let log = log_apart k e.1 in let rest = apart k e.1 in omega (arith, log, rest)

pub rounds_on : (n pieces limit number moment : ℕ) (old new : State) → Rounds n old number moment limit new → IsKept (facts_of old) → IsReplayed old → IsWorkedOn pieces limit old new
rounds_on zero pieces limit number moment old new same kept replayed = subst (IsWorkedOn pieces limit old) (sym same) (record { kept = kept; replayed = replayed; adds_none = λ k. omega arith })
rounds_on (suc n) pieces limit number moment old new (middle, rounds, last) kept replayed =
    let first = rounds_on n pieces limit number moment old middle rounds kept replayed in
    let then = round_on pieces limit number moment middle new last first.kept first.replayed in
    record { kept = then.kept; replayed = then.replayed; adds_none = λ k. (let a = first.adds_none k in let b = then.adds_none k in omega (arith, a, b)) }

-- ---- one advance

pub advances_take_items : AdvancesTakeItems
advances_take_items old new moment pieces limit number (advanced.Began element receipt) kept replayed counts (due, at) = begin_adds_none old new moment element pieces limit receipt counts.piece_count kept due at number
advances_take_items old new moment pieces limit number (advanced.Published version receipt) kept replayed counts (step, due, at) = step_adds_none old new moment step (version, receipt) pieces limit kept due at number
advances_take_items old new moment pieces limit number (advanced.Worked element done) kept replayed counts (due, w) =
    (round_on pieces limit element moment old new (record {
      piece = w.piece;
      next = w.was_read.0;
      read = w.read;
      read_so = w.was_read.1;
      done = done;
      committed = w.committed;
    }) kept replayed).adds_none number
advances_take_items old new moment pieces limit number (advanced.Waiting until) kept replayed counts (due, same) =
    (let is : pieces_and_ahead pieces limit new number ≡ pieces_and_ahead pieces limit old number = ap (λ (s : State). pieces_and_ahead pieces limit s number) same in omega (arith, is))
advances_take_items old new moment pieces limit number advanced.Finished kept replayed counts (due, same) =
    (let is : pieces_and_ahead pieces limit new number ≡ pieces_and_ahead pieces limit old number = ap (λ (s : State). pieces_and_ahead pieces limit s number) same in omega (arith, is))
