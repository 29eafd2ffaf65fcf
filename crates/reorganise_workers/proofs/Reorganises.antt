-- What a call for all pieces answers, from what its tasks came to.
use Rattle.std.proofs.Common.{◌≡◌, ℕ, ◌+◌, ◌≤◌, subst, List, [], ◌∷◌, ◌++◌, length, map, reverse, sum_by, All, Some, inl, refl, sym, ap, ◌∙◌, arith, append_assoc}
use Rattle.std.specs.Prelude.{Bool, Option, None, Result, Ok, Err, IfOk, IfErr}
use Rattle.std.specs.Option.{option_map}
use Rattle.std.proofs.lemmas.List.{reverse-reverse, length-map, length-reverse}
use Rattle.std.proofs.lemmas.List.Elements.{All-push, All-pop, All-same}
use Rattle.std.proofs.lemmas.List.Sums.{sum_by-le, sum_by_push}
use Rattle.tasks.proofs.Handed.{map_reverse, map_map, map_push, sum_reverse, sum_map}
use Rattle.tasks.proofs.Seats.{reverse_push}
use Rattle.tasks.specs.Outcomes.{IsRow, held_in}
use Rattle.schema_version.specs.declared.element.Work.{Work}
use Rattle.reorganise.specs.declared.work.Progress.{Progress}
use Rattle.replay.specs.Replay.{progress_of}
use Rattle.locked_store.specs.Piece.{standing, standing_at}
use Rattle.locked_store.specs.State.{State, facts_of}
use Rattle.locked_store.specs.Receipt.{Receipt}
use Rattle.locked_store.specs.Cores.{IsCore}
use Rattle.locked_store.specs.Known.{Known, own_of, total_count, total_refused, IsLeastFront, OfLast}
use Rattle.locked_store.specs.Answers.{Counts}
use Rattle.locked_store.proofs.Fronts.{back_risen, risen_on, one_risen}
use Rattle.reorganise_workers.specs.inner.Workers.{Filling, AreIdle}
use Rattle.reorganise_workers.specs.Ends.{HasSeen, IsEndOf, IsPieceReceipt, tries_of}
use Rattle.reorganise_workers.specs.ReorganiseAll.{IsCount, IsMostFront, IsRefused, Reorganises, IsWorkedOff, WasBegun, WasRefused, Stays, right, asked}
use Rattle.reorganise_workers.specs.declared.all_pieces.ReorganiseFault.{ReorganiseFault}
use Rattle.reorganise_workers.specs.declared.all_pieces.ReorganiseFault.TheVariants as fault
use Rattle.reorganise_workers.specs.declared.end.PieceEnd.{PieceEnd}
use Rattle.reorganise_workers.specs.declared.job.Job.{Job}

-- the handles of all workers, the last one first, are the handles that were handed in
pub given_back : (handles : List Known) (ws : List Filling) → map (λ w. w.handle) ws ≡ reverse handles → reverse (map (λ w. w.handle) ws) ≡ handles
given_back handles ws staff = ap reverse staff ∙ reverse-reverse handles

-- idle workers keep nothing
idle_none : (job : Job) (ws : List Filling) → AreIdle job ws → sum_by (λ w. length w.kept_receipts) ws ≡ 0
idle_none job ws idle = omega (arith, sum_by-le (λ (w : Filling). length w.kept_receipts) 0 ws (λ i d lt. omega (arith, ap (λ (l : List Receipt). length l) (idle i d lt).0)))

-- each worker has the whole job before it
pub planned : (job : Job) (ws : List Filling) → AreIdle job ws → All (λ w. w.job.pieces ≡ job.pieces) ws
planned job ws idle i d lt = ap (λ (j : Job). j.pieces) (idle i d lt).1

shares : (handles : List Known) (ws : List Filling) → map (λ w. w.handle) ws ≡ reverse handles → total_count handles ≡ sum_by (λ w. w.handle.count) ws
shares handles ws staff = sym (sum_reverse (λ (h : Known). h.count) handles) ∙ ap (sum_by (λ (h : Known). h.count)) (sym staff) ∙ sum_map (λ (h : Known). h.count) (λ (w : Filling). w.handle) ws

refusals : (handles : List Known) (ws : List Filling) → map (λ w. w.handle) ws ≡ reverse handles → total_refused handles ≡ sum_by (λ w. w.handle.refused) ws
refusals handles ws staff = sym (sum_reverse (λ (h : Known). h.refused) handles) ∙ ap (sum_by (λ (h : Known). h.refused)) (sym staff) ∙ sum_map (λ (h : Known). h.refused) (λ (w : Filling). w.handle) ws

numbers : (handles : List Known) (ws : List Filling) → handles ≡ reverse (map (λ w. w.handle) ws) → map own_of handles ≡ reverse (map (λ w. own_of w.handle) ws)
numbers handles ws is =
    ap (map own_of) is ∙ map_reverse own_of (map (λ (w : Filling). w.handle) ws) ∙ ap reverse (map_map own_of (λ (w : Filling). w.handle) ws)

-- ends hold no receipt
none_held : (ends : List (ℕ × PieceEnd)) → held_in (λ (e : PieceEnd). 0) ends ≡ 0
none_held [] = refl
none_held (e ∷ ends) = omega (arith, none_held ends)

-- which worker it is: its handle, and the front with which the handle came
abbrev which : Filling → (ℕ × ℕ) × ℕ
which w = (own_of w.handle, w.first_front)

pub reorganises : (start : State) (job : Job) (handles : List Known) (ws ps : List Filling) (ends : List (ℕ × PieceEnd)) (back : List Known) (receipts : List (List Receipt))
    → map (λ w. w.handle) ws ≡ reverse handles → AreIdle job ws → IsRow job.pieces ends
    → ((plan : Job) → All (λ w. w.job ≡ plan) ws → All (λ e. IsEndOf start plan e.0 e.1) ends)
    → map which ps ≡ map which ws
    → ((plan : Job) → All (λ w. w.job ≡ plan) ws → All (λ w. w.job ≡ plan) ps)
    → sum_by (λ w. w.handle.count) ps + sum_by (λ w. length w.kept_receipts) ws ≡ sum_by (λ w. w.handle.count) ws + sum_by (λ w. length w.kept_receipts) ps + held_in (λ (e : PieceEnd). 0) ends
    → sum_by (λ w. w.handle.refused) ws + held_in tries_of ends ≤ sum_by (λ w. w.handle.refused) ps
    → back ≡ reverse (map (λ w. w.handle) ps) → All (λ w. w.first_front ≤ w.handle.front) ps → length receipts ≡ length ps → sum_by length receipts ≡ sum_by (λ w. length w.kept_receipts) ps
    → ((plan : Job) → All (λ w. w.job ≡ plan) ps → All (All (IsPieceReceipt start plan)) receipts)
    → Reorganises start job handles ends back receipts
reorganises start job handles ws ps ends back receipts staff idle row fits same plans counted tried back_is risen lists kept_receipts pieces =
    let first : handles ≡ reverse (map (λ (w : Filling). w.handle) ws) = sym (given_back handles ws staff) in
    let ids : map (λ (w : Filling). own_of w.handle) ps ≡ map (λ (w : Filling). own_of w.handle) ws =
    sym (map_map (λ (p : (ℕ × ℕ) × ℕ). p.0) which ps) ∙ ap (map (λ (p : (ℕ × ℕ) × ℕ). p.0)) same ∙ map_map (λ (p : (ℕ × ℕ) × ℕ). p.0) which ws in
    let firsts : map (λ (w : Filling). w.first_front) ps ≡ map (λ (w : Filling). w.first_front) ws =
    sym (map_map (λ (p : (ℕ × ℕ) × ℕ). p.1) which ps) ∙ ap (map (λ (p : (ℕ × ℕ) × ℕ). p.1)) same ∙ map_map (λ (p : (ℕ × ℕ) × ℕ). p.1) which ws in
    let staff_back : map (λ (w : Filling). w.handle) ps ≡ reverse back = sym (ap reverse back_is ∙ reverse-reverse (map (λ (w : Filling). w.handle) ps)) in
    record {
      each = row;
      own = fits job (λ i d lt. (idle i d lt).1);
      same = numbers back ps back_is ∙ ap reverse ids ∙ sym (numbers handles ws first);
      risen = back_risen (λ (w : Filling). w.handle) (λ (w : Filling). w.first_front) handles back ws ps staff (λ i d lt. (idle i d lt).2) firsts risen back_is;
      counted = omega (arith, counted, idle_none job ws idle, shares handles ws staff, shares back ps staff_back, kept_receipts, none_held ends);
      tried = omega (arith, tried, refusals handles ws staff, refusals back ps staff_back);
      lists = lists ∙ sym (length-map ps which) ∙ ap (λ (l : List ((ℕ × ℕ) × ℕ)). length l) same ∙ length-map ws which ∙ sym (length-map ws (λ (w : Filling). w.handle)) ∙ ap (λ (l : List Known). length l) staff ∙ length-reverse handles;
      pieces = pieces job (plans job (λ i d lt. (idle i d lt).1));
    }

-- one worker taken apart: its handle comes after the others'
pub handle_apart : (all left : List Filling) (w : Filling) (handle : Known) (handles new total : List Known) → all ≡ left ++ w ∷ [] → new ≡ handles ++ handle ∷ [] → w.handle ≡ handle
    → handles ++ reverse (map (λ w. w.handle) all) ≡ total → new ++ reverse (map (λ w. w.handle) left) ≡ total
handle_apart all left w handle handles new total all_is new_is own_is so_far =
    let rest : List Known = reverse (map (λ (v : Filling). v.handle) left) in
    ap (λ l. l ++ rest) new_is ∙ append_assoc handles (handle ∷ []) rest ∙ ap (λ h. handles ++ h ∷ rest) (sym own_is)
    ∙ ap (λ l. handles ++ l) (sym (reverse_push (λ (v : Filling). v.handle) left w) ∙ ap (λ l. reverse (map (λ (v : Filling). v.handle) l)) (sym all_is)) ∙ so_far

-- and so do its receipts
pub receipts_apart : (all left : List Filling) (w : Filling) (kept_receipts : List Receipt) (receipts new : List (List Receipt)) (total : ℕ) → all ≡ left ++ w ∷ [] → new ≡ receipts ++ kept_receipts ∷ [] → w.kept_receipts ≡ kept_receipts
    → sum_by length receipts + sum_by (λ w. length w.kept_receipts) all ≡ total → sum_by length new + sum_by (λ w. length w.kept_receipts) left ≡ total
receipts_apart all left w kept_receipts receipts new total all_is new_is own_is so_far =
    omega (
      arith,
      so_far,
      ap (sum_by (λ (l : List Receipt). length l)) new_is,
      sum_by_push (λ (l : List Receipt). length l) receipts kept_receipts,
      ap (sum_by (λ (v : Filling). length v.kept_receipts)) all_is,
      sum_by_push (λ (v : Filling). length v.kept_receipts) left w,
      ap (λ (l : List Receipt). length l) own_is,
    )

-- which are of pieces, as the others' are
pub pieces_apart : (start : State) (job own : Job) (all left : List Filling) (w : Filling) (kept_receipts : List Receipt) (receipts new : List (List Receipt))
    → all ≡ left ++ w ∷ [] → new ≡ receipts ++ kept_receipts ∷ [] → w.job ≡ own → All (IsPieceReceipt start own) kept_receipts
    → All (λ v. v.job ≡ job) all × All (All (IsPieceReceipt start job)) receipts → All (λ v. v.job ≡ job) left × All (All (IsPieceReceipt start job)) new
pieces_apart start job own all left w kept_receipts receipts new all_is new_is own_is logged h =
    let parts = All-pop (λ (v : Filling). v.job ≡ job) all left (Some w) all_is h.0 in
    let same : own ≡ job = sym own_is ∙ parts.1 in (
      parts.0,
      All-same (All (IsPieceReceipt start job)) new (receipts ++ kept_receipts ∷ []) new_is
          (All-push (All (IsPieceReceipt start job)) receipts kept_receipts h.1 (subst (λ (j : Job). All (IsPieceReceipt start j) kept_receipts) same logged)),
    )

-- ---- the look at the progress, which moves one front

abbrev Right : Type 0
Right = (ℕ × ℕ) × (ℕ × ℕ)

pub stays_ids : (old new : List Known) → Stays old new → map own_of new ≡ map own_of old
stays_ids old new s = sym (map_map (λ (p : Right). p.0) right new) ∙ ap (map (λ (p : Right). p.0)) s.0 ∙ map_map (λ (p : Right). p.0) right old

-- what is read off each of them adds up to the same
stays_sum : (f : Right → ℕ) (old new : List Known) → Stays old new → sum_by (λ h. f (right h)) new ≡ sum_by (λ h. f (right h)) old
stays_sum f old new s = sym (sum_map f right new) ∙ ap (sum_by f) s.0 ∙ sum_map f right old

pub stays_count : (old new : List Known) → Stays old new → total_count new ≡ total_count old
stays_count old new s = stays_sum (λ p. p.1.0) old new s

pub stays_refused : (old new : List Known) → Stays old new → total_refused new ≡ total_refused old
stays_refused old new s = stays_sum (λ p. p.1.1) old new s

stays_length : (old new : List Known) → Stays old new → length new ≡ length old
stays_length old new s = sym (length-map new right) ∙ ap (λ (l : List Right). length l) s.0 ∙ length-map old right

right_same : (before after : Known) → Counts before None after → right after ≡ right before
right_same before after c = λ i. ((c.0 i, c.2 i), (c.1 i, c.3 i))

-- the last handle looked, and is the last again
pub looked : (old popped new : List Known) (before after : Known) → old ≡ popped ++ before ∷ [] → new ≡ popped ++ after ∷ [] → Counts before None after → before.front ≤ after.front → Stays old new
looked old popped new before after old_is new_is same rises = (
  ap (map right) new_is ∙ map_push right popped after ∙ ap (λ (p : Right). map right popped ++ p ∷ []) (right_same before after same)
      ∙ sym (map_push right popped before) ∙ sym (ap (map right) old_is),
  one_risen old new popped before after old_is new_is rises,
)

-- what is begun in a core has at most 64 pieces
abbrev count_of : Option (Work × ℕ × Bool) → ℕ
count_of None = 0
count_of (Some reported) = reported.1

pub few : (start : State) (core : State) (element pieces : ℕ) (work : Work) (ended : Bool) → IsCore start core → standing_at (facts_of core) element ≡ Some (work, pieces, ended) → pieces ≤ 64
few start core element pieces work ended c is = go (progress_of (facts_of core).progress element) refl is
  where
    go : (o : Option Progress) → progress_of (facts_of core).progress element ≡ o → option_map standing o ≡ Some (work, pieces, ended) → pieces ≤ 64
    go None e h = absurd (cc)
    go (Some p) e h = let m : length p.pieces ≡ pieces = ap count_of h in omega (arith, m, (c.kept.in_pieces element p e).few)

-- the handle that looked has seen no less than before
pub seen_still : (front : ℕ) (old popped new : List Known) (before after : Known) → old ≡ popped ++ before ∷ [] → new ≡ popped ++ after ∷ [] → before.front ≤ after.front
    → All (λ h. front ≤ h.front) old → All (λ h. front ≤ h.front) new
seen_still front old popped new before after old_is new_is rises all =
    let parts = All-pop (λ (h : Known). front ≤ h.front) old popped (Some before) old_is all in
    All-same (λ (h : Known). front ≤ h.front) new (popped ++ after ∷ []) new_is (All-push (λ (h : Known). front ≤ h.front) popped after parts.0 (omega (arith, parts.1, rises)))

-- so is its front one that a handle may have
pub had_still : (start : State) (most : ℕ) (old popped new : List Known) (before after : Known) → old ≡ popped ++ before ∷ [] → new ≡ popped ++ after ∷ [] → (HasSeen start most before.front → HasSeen start most after.front)
    → All (λ h. h.front ≤ most) old → All (λ h. HasSeen start most h.front) new
had_still start most old popped new before after old_is new_is stays all =
    let parts = All-pop (λ (h : Known). h.front ≤ most) old popped (Some before) old_is all in
    All-same (λ (h : Known). HasSeen start most h.front) new (popped ++ after ∷ []) new_is
    (All-push (λ (h : Known). HasSeen start most h.front) popped after (λ i d lt. inl (parts.0 i d lt)) (stays (inl parts.1)))

pub of_last : (handles others : List Known) (last : Known) (P : Known → Type 0) → handles ≡ others ++ last ∷ [] → P last → OfLast handles P
of_last handles others last P are is = record { others = others; last = last; are = are; is = is }

-- what the last handle found, of all handles
pub refused_of_last : (start : State) (element limit tries : ℕ) (handles others : List Known) (last : Known) (f : ReorganiseFault) → IsCount (length handles) limit tries
    → handles ≡ others ++ last ∷ [] → WasRefused start element last.front f → IsRefused start element limit tries handles f
refused_of_last start element limit tries handles others last fault.BadCount counts are is = absurd is
refused_of_last start element limit tries handles others last (fault.WentBack seen) counts are is = (counts, of_last handles others last _ are is)
refused_of_last start element limit tries handles others last fault.NotBegun counts are is = (counts, of_last handles others last _ are is)
refused_of_last start element limit tries handles others last fault.Memory counts are is = absurd is

-- all that was asked for, by handles of which one has looked
pub worked_off : (start : State) (moment element limit tries : ℕ) (job : Job) (handles mid : List Known) (ends : List (ℕ × PieceEnd)) (back : List Known) (receipts : List (List Receipt))
    → Stays handles mid → job ≡ asked moment element job.kind job.pieces limit tries job.front job.most → OfLast handles (λ last. WasBegun start element job.kind job.pieces last.front)
    → IsLeastFront handles job.front → IsMostFront handles job.most → Reorganises start job mid ends back receipts → IsWorkedOff start moment element limit tries handles ends back receipts
worked_off start moment element limit tries job handles mid ends back receipts s is begun least greatest r =
    record {
      kind = job.kind;
      pieces = job.pieces;
      begun = begun;
      front = job.front;
      least = least;
      most = job.most;
      greatest = greatest;
      done = record {
        each = r.each;
        own = subst (λ (j : Job). All (λ e. IsEndOf start j e.0 e.1) ends) is r.own;
        same = r.same ∙ stays_ids handles mid s;
        counted = omega (arith, r.counted, stays_count handles mid s);
        tried = omega (arith, r.tried, stays_refused handles mid s);
        risen = risen_on handles mid back (stays_length handles mid s) s.1 r.risen;
        lists = r.lists ∙ stays_length handles mid s;
        pieces = subst (λ (j : Job). All (All (IsPieceReceipt start j)) receipts) is r.pieces;
      };
    }

pub same_stays : (old mid new : List Known) → Stays old mid → new ≡ mid → Stays old new
same_stays old mid new s is = subst (Stays old) (sym is) s

-- ---- what holds of a result

pub ok_map : {A E : Type 0} {P Q : A → Type 0} (r : Result A E) → IfOk r P → ((x : A) → P x → Q x) → IfOk r Q
ok_map (Ok x) p f = f x p
ok_map (Err e) p f = tt

pub err_map : {A E : Type 0} {P Q : E → Type 0} (r : Result A E) → IfErr r P → ((x : E) → P x → Q x) → IfErr r Q
err_map (Ok x) p f = tt
err_map (Err e) p f = f e p
