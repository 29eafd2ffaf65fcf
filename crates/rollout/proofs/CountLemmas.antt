-- What is left of a state, after each act.
use Rattle.std.proofs.Common.{◌≡◌, ◌≢◌, ℕ, zero, suc, ◌+◌, ◌<◌, ◌≤◌, Bool, true, false, cond, List, [], ◌∷◌, ◌++◌, Option, Some, None, Ok, refl, sym, ap, subst, ◌∙◌, arith, option_map, inl, Less}
use Rattle.std.specs.Prelude.{is_some, not, ◌&&◌, slice_get}
use Rattle.std.specs.Option.{option_and_then}
use Rattle.std.proofs.lemmas.Bool.Decides.{Decides-eqb}
use Rattle.std.specs.List.{AllByRecursion}
use Rattle.keycode.specs.Order.{bytes_cmp}
use Rattle.row_map.specs.Rows.{Bytes, Pairs}
use Rattle.schema_version.specs.declared.element.ElementState.{ElementState}
use Rattle.schema_version.specs.declared.element.ElementDef.{ElementDef}
use Rattle.schema_version.specs.declared.element.Work.{Work}
use Rattle.schema_version.specs.Edges.{wanted_work}
use Rattle.schema_version.specs.Version.{element_at}
use Rattle.schema_version.proofs.Lists.{some_same}
use Rattle.reorganise.specs.declared.work.Progress.{Progress}
use Rattle.reorganise.specs.declared.read.Reading.{Reading}
use Rattle.reorganise.specs.declared.work.Span.{Span}
use Rattle.reorganise.specs.declared.fault.ViewFault.TheVariants.{BadLimit}
use Rattle.reorganise.specs.Pieces.{begun, view_at, next_cursor}
use Rattle.reorganise.specs.ScanRanges.{scan_range_of}
use Rattle.replay.specs.declared.entry.What.{What}
use Rattle.replay.specs.declared.entry.What.TheVariants.{Begin, Piece}
use Rattle.replay.specs.Kept.{IsKept}
use Rattle.replay.specs.Replay.{Facts, after, is_of, progress_of, moved_to, come_to, begun_of, begun_by}
use Rattle.replay.proofs.Begun.{found, progress_moved}
use Rattle.world.specs.BeginReorg.{wanted_at}
use Rattle.world.specs.Calls.{Appends}
use Rattle.world.specs.Piece.{ReadStep}
use Rattle.world.specs.declared.entry.Receipt.{Receipt}
use Rattle.piece_work.specs.WorkOff.{IsNext}
use Rattle.world.specs.State.{State, facts_of, effect}
use Rattle.world.proofs.Invariant.{facts_after}
use Rattle.rollout.specs.StatePath.{next_state, edges_of}
use Rattle.rollout.specs.Due.{IsUnderWay, MayBegin}
use Rattle.rollout.specs.Left.{sum_below, edges_at, edges_left, unbegun_at, unbegun, ComesOn}
use Rattle.rollout.proofs.Falls.{sum_less, sum_same}
use Rattle.rollout.proofs.Onward.{edges_fall, edges_end}
use Rattle.rollout.proofs.Rises.{comes_up}

none_some : {A B : Type 0} {x : A} → None ≡ Some x → B
none_some e = absurd cc

-- ---- the facts after an entry

pub facts_then : (old new : State) (now : ℕ) (what : What) (receipt : Receipt) → Appends old now what receipt new → facts_of new ≡ after (facts_of old) (record { moment = now; what = what })
facts_then old new now what receipt a = ap facts_of (a.state ∙ ap (effect old) a.entry) ∙ facts_after old (record { moment = now; what = what })

-- ---- what has begun

more_begun : (ps qs : List Progress) (n : ℕ) → is_some (progress_of ps n) ≡ true → is_some (progress_of (ps ++ qs) n) ≡ true
more_begun [] qs n e = absurd cc
more_begun (p ∷ ps) qs n e = by (more_begun ps qs n) (is_of n p) refl e
  where
    by : (is_some (progress_of ps n) ≡ true → is_some (progress_of (ps ++ qs) n) ≡ true) → (b : Bool) → is_of n p ≡ b → is_some (cond b (Some p) (progress_of ps n)) ≡ true → is_some (cond b (Some p) (progress_of (ps ++ qs) n)) ≡ true
    by rest true is e = refl
    by rest false is e = rest e

last_begun : (ps : List Progress) (q : Progress) (n : ℕ) → is_of n q ≡ true → is_some (progress_of (ps ++ q ∷ []) n) ≡ true
last_begun [] q n is = ap (λ (b : Bool). is_some (cond b (Some q) None)) is
last_begun (p ∷ ps) q n is = by (is_of n p) (last_begun ps q n is)
  where
    by : (b : Bool) → is_some (progress_of (ps ++ q ∷ []) n) ≡ true → is_some (cond b (Some p) (progress_of (ps ++ q ∷ []) n)) ≡ true
    by true rest = refl
    by false rest = rest

pub less_by : (w a b : Bool) → (a ≡ true → b ≡ true) → cond (w && not b) 1 0 ≤ cond (w && not a) 1 0
less_by false a b more = omega arith
less_by true a true more = by a
  where
    by : (a : Bool) → 0 ≤ cond (not a) 1 0
    by true = omega arith
    by false = omega arith
less_by true true false more = absurd (no (more refl))
  where
    no : false ≡ true → ⊥
    no e = cc
less_by true false false more = omega arith

-- ---- a begin

module _ (facts : Facts) (now number pieces : ℕ) (may : MayBegin facts now number) (kept : IsKept facts) where
  abbrev then : Facts
  then = after facts (record { moment = now; what = Begin number pieces })

  pub begun_least : (n : ℕ) → unbegun_at then n ≤ unbegun_at facts n
  begun_least n =
      less_by (is_some (wanted_at facts n)) (is_some (progress_of facts.progress n)) (is_some (progress_of then.progress n))
      (more_begun facts.progress (begun_of (element_at facts.newest number) facts.pairs pieces) n)

  pub its_element : (o : Option ElementDef) → element_at facts.newest number ≡ o → option_and_then wanted_work o ≡ Some may.work → (e : ElementDef) × (element_at facts.newest number ≡ Some e) × (wanted_work e ≡ Some may.work)
  its_element None is e = none_some e
  its_element (Some e) is w = (e, is, w)

  -- what has begun is the element's
  pub begun_made : (q : Progress) × (begun_of (element_at facts.newest number) facts.pairs pieces ≡ q ∷ []) × (q.element.number ≡ number)
  begun_made =
      let e = its_element (element_at facts.newest number) refl may.wants in (
        begun e.0 may.work facts.pairs pieces,
        ap (λ (o : Option ElementDef). begun_of o facts.pairs pieces) e.1 ∙ ap (λ (o : Option Work). begun_by e.0 o facts.pairs pieces) e.2,
        (kept.sound.elements number e.0 e.1).own,
      )

  pub begun_less : (number < facts.newest.next) × (unbegun_at then number < unbegun_at facts number)
  begun_less =
      let e = its_element (element_at facts.newest number) refl may.wants in
      let own : e.0.number ≡ number = (kept.sound.elements number e.0 e.1).own in
      let made : begun_of (element_at facts.newest number) facts.pairs pieces ≡ begun e.0 may.work facts.pairs pieces ∷ [] = ap (λ (o : Option ElementDef). begun_of o facts.pairs pieces) e.1 ∙ ap (λ (o : Option Work). begun_by e.0 o facts.pairs pieces) e.2 in
      let there : is_some (progress_of then.progress number) ≡ true =
      ap (λ (qs : List Progress). is_some (progress_of (facts.progress ++ qs) number)) made
      ∙ last_begun facts.progress (begun e.0 may.work facts.pairs pieces) number ((Decides-eqb e.0.number number).1 own) in
      let was : unbegun_at facts number ≡ 1 = ◌∙◌ {b = cond (not (is_some (progress_of facts.progress number))) 1 0} (ap (λ (o : Option Work). cond (is_some o && not (is_some (progress_of facts.progress number))) 1 0) may.wants) (ap (λ (o : Option Progress). cond (not (is_some o)) 1 0) may.new) in
      let is : unbegun_at then number ≡ 0 = ◌∙◌ {b = cond (is_some (wanted_at facts number) && false) 1 0} (ap (λ (b : Bool). cond (is_some (wanted_at facts number) && not b) 1 0) there) (ap (λ (o : Option Work). cond (is_some o && false) 1 0) may.wants) in
      ((kept.sound.elements number e.0 e.1).given, omega (arith, was, is))

  pub begin_falls : (edges_left then ≡ edges_left facts) × (unbegun then < unbegun facts)
  begin_falls = (refl, sum_less (unbegun_at facts) (unbegun_at then) facts.newest.next number (λ n lt. begun_least n) begun_less.0 begun_less.1)

-- ---- whose it is

pub not_of : (q : Progress) (n k : ℕ) → q.element.number ≡ n → k ≢ n → is_of k q ≡ false
not_of q n k own ne = by (is_of k q) refl
  where
    by : (b : Bool) → is_of k q ≡ b → b ≡ false
    by true is = absurd (ne (sym ((Decides-eqb q.element.number k).0 is) ∙ own))
    by false is = refl

all_any : (ps : List Progress) → AllByRecursion (λ _. Unit {0}) ps
all_any [] = tt
all_any (p ∷ ps) = (tt, all_any ps)

pub its_number : (ps : List Progress) (n : ℕ) (p : Progress) → progress_of ps n ≡ Some p → p.element.number ≡ n
its_number ps n p at = (found (λ _. Unit {0}) ps n p (all_any ps) at).1

pub moved_other : (ps : List Progress) (n piece : ℕ) (cursor : Bytes) (k : ℕ) → k ≢ n → (o : Option Progress) → progress_of ps k ≡ o → option_map (moved_to n piece cursor) o ≡ o
moved_other ps n piece cursor k ne None is = refl
moved_other ps n piece cursor k ne (Some p) is = ap (λ (b : Bool). let o : Option Progress = Some (cond b (come_to piece cursor p) p) in o) (not_of p k n (its_number ps k p is) (λ e. ne (sym e)))

-- ---- a piece

same_begun : (n piece : ℕ) (cursor : Bytes) (o : Option Progress) → is_some (option_map (moved_to n piece cursor) o) ≡ is_some o
same_begun n piece cursor None = refl
same_begun n piece cursor (Some p) = refl

pub piece_unbegun : (facts : Facts) (now number piece : ℕ) (cursor : Bytes) (n : ℕ) → unbegun_at (after facts (record { moment = now; what = Piece number piece cursor })) n ≡ unbegun_at facts n
piece_unbegun facts now number piece cursor n =
    ap (λ (b : Bool). cond (is_some (wanted_at facts n) && not b) 1 0) (ap is_some (progress_moved number piece cursor facts.progress n) ∙ same_begun number piece cursor (progress_of facts.progress n))

pub piece_falls : (facts : Facts) (now number piece : ℕ) (cursor : Bytes) → (unbegun (after facts (record { moment = now; what = Piece number piece cursor })) ≡ unbegun facts)
piece_falls facts now number piece cursor =
    sum_same (unbegun_at facts) (unbegun_at (after facts (record { moment = now; what = Piece number piece cursor }))) facts.newest.next (piece_unbegun facts now number piece cursor)

piece_comes : (facts : Facts) (now number piece limit : ℕ) (pairs : Pairs) (p : Progress) (span : Span) → progress_of facts.progress number ≡ Some p → slice_get p.pieces piece ≡ Some span → bytes_cmp span.cursor span.high ≡ Less → 1 ≤ limit
    → ComesOn facts (after facts (record { moment = now; what = Piece p.element.number piece (view_at p pairs piece limit span).key_range.high })) number
piece_comes facts now number piece limit pairs p span begun here less some =
    let to : Bytes = next_cursor (scan_range_of p.element p.kind) pairs span.cursor span.high limit in
    let up = comes_up p.element p.kind pairs span.cursor span.high limit some less in
    let own : is_of p.element.number p ≡ true = (Decides-eqb p.element.number p.element.number).1 refl in
    let its : p.element.number ≡ number = its_number facts.progress number p begun in
    record {
      progress = p;
      begun = begun;
      piece = piece;
      span = span;
      here = here;
      to = to;
      up = up.0;
      bounded = up.1;
      moved = progress_moved p.element.number piece to facts.progress number ∙ ap (option_map (moved_to p.element.number piece to)) begun ∙ ap (λ (b : Bool). let o : Option Progress = Some (cond b (come_to piece to p) p) in o) own;
      others = λ k ne. progress_moved p.element.number piece to facts.progress k ∙ moved_other facts.progress p.element.number piece to k (λ e. ne (e ∙ its)) (progress_of facts.progress k) refl;
    }

-- what was read of the next piece, once it is committed
pub read_comes : (old : State) (now number piece limit : ℕ) (read : Reading) → IsNext old number piece → ReadStep old number piece limit (Ok read)
    → ComesOn (facts_of old) (after (facts_of old) (record { moment = now; what = Piece read.element.number read.piece read.key_range.high })) number
read_comes old now number piece limit read next step =
    let same : step.0 ≡ next.progress = some_same (sym step.1 ∙ next.begun) in
    let one : step.3.span ≡ next.first.span = some_same (sym step.3.here ∙ ap (λ (q : Progress). slice_get q.pieces piece) same ∙ next.first.here) in
    let enough = step.2 BadLimit in
    let some : 1 ≤ limit = not_below (λ h. enough (inl h)) in
    subst (λ (r : Reading). ComesOn (facts_of old) (after (facts_of old) (record { moment = now; what = Piece r.element.number r.piece r.key_range.high })) number) (sym step.3.read_is)
    (piece_comes (facts_of old) now number piece limit old.pairs step.0 step.3.span step.1 step.3.here (ap (λ (s : Span). bytes_cmp s.cursor s.high) one ∙ next.first.unended) some)
  where
    not_below : ¬ (limit < 1) → 1 ≤ limit
    not_below h = omega (arith, h)

-- ---- nothing, or a wait

pub some_left : (facts : Facts) → IsKept facts → (number : ℕ) × IsUnderWay facts number → 1 ≤ edges_left facts
some_left facts kept (number, u) =
    let fall = edges_fall u.element u.to u.next in
    let was : edges_at facts.newest number ≡ edges_of (Some u.element) = ap edges_of u.there in
    let less = sum_less (edges_at facts.newest) (λ _. 0) facts.newest.next number (λ k lt. omega arith) ((kept.sound.elements number u.element u.there).given) (omega (arith, fall, was)) in
    omega (arith, less)

none_at : (facts : Facts) → ((number : ℕ) → ¬ (IsUnderWay facts number)) → (n : ℕ) (o : Option ElementDef) → element_at facts.newest n ≡ o → edges_of o ≡ 0
none_at facts none n None is = refl
none_at facts none n (Some e) is = by (next_state e) refl
  where
    by : (o : Option ElementState) → next_state e ≡ o → edges_of (Some e) ≡ 0
    by None next = edges_end e next
    by (Some to) next = absurd (none n (record { element = e; there = is; to = to; next = next }))

zeros : (n : ℕ) → sum_below (λ _. 0) n ≡ 0
zeros zero = refl
zeros (suc n) = ap (λ (s : ℕ). s + 0) (zeros n)

pub none_left : (facts : Facts) → ((number : ℕ) → ¬ (IsUnderWay facts number)) → edges_left facts ≡ 0
none_left facts none = sum_same (λ _. 0) (edges_at facts.newest) facts.newest.next (λ n. none_at facts none n (element_at facts.newest n) refl) ∙ zeros facts.newest.next
