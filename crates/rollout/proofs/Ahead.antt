-- What is ahead of an element after a begin, after its own move and after a piece.
use Rattle.std.proofs.Common.{◌≡◌, ℕ, zero, suc, ◌+◌, ◌*◌, ◌<◌, ◌≤◌, Bool, true, false, cond, List, [], ◌∷◌, ◌++◌, length, Option, Some, None, refl, sym, ap, subst, ◌∙◌, arith}
use Rattle.std.specs.Prelude.{is_some}
use Rattle.std.specs.Option.{unwrap_or}
use Rattle.row_map.specs.Rows.{Pairs}
use Rattle.schema_version.specs.declared.element.ElementState.{ElementState}
use Rattle.schema_version.specs.declared.element.ElementState.TheVariants.{Absent, DeleteOnly, WriteOnly, Public}
use Rattle.schema_version.specs.declared.element.Way.{Way}
use Rattle.schema_version.specs.declared.element.Way.TheVariants.{Adding, Dropping}
use Rattle.schema_version.specs.declared.element.Kind.{Kind}
use Rattle.schema_version.specs.declared.element.Kind.TheVariants.{Index, Optional, Required}
use Rattle.schema_version.specs.declared.element.ElementDef.{ElementDef}
use Rattle.schema_version.specs.declared.element.Work.{Work}
use Rattle.schema_version.specs.declared.element.Work.TheVariants.{Fill, Clear}
use Rattle.schema_version.specs.Edges.{is_filled, edge_by, wanted_work}
use Rattle.schema_version.specs.Moves.{in_state}
use Rattle.schema_version.specs.Steps.{in_state_or_none}
use Rattle.reorganise.specs.declared.work.Span.{Span}
use Rattle.reorganise.specs.declared.work.Progress.{Progress}
use Rattle.reorganise.specs.Pieces.{begun, span_at, spans, is_ended}
use Rattle.reorganise.specs.ScanRanges.{scan_range_of, cleared, items}
use Rattle.reorganise.proofs.Left.{all_left}
use Rattle.replay.proofs.Openings.{WantedBy}
use Rattle.rollout.specs.StatePath.{next_by, next_state}
use Rattle.rollout.specs.Pieces.{way_work, work_ahead, items_of, items_by, pieces_by, open_pieces}

none_some : {A B : Type 0} {x : A} → None ≡ Some x → B
none_some e = absurd cc

-- ---- the work on a way

wanted_ahead : (filled : Bool) (way : Way) (state : ElementState) (work : Work) → WantedBy filled way state ≡ Some work → cond (is_some (next_by filled way state)) (way_work filled way) None ≡ Some work
wanted_ahead true Adding WriteOnly work e = e
wanted_ahead true Dropping DeleteOnly work e = e
wanted_ahead false Dropping DeleteOnly work e = e
wanted_ahead false Adding Absent work e = none_some e
wanted_ahead false Adding DeleteOnly work e = none_some e
wanted_ahead false Adding WriteOnly work e = none_some e
wanted_ahead false Adding Public work e = none_some e
wanted_ahead filled way state work e = none_some e

-- what an element wants is the work that is ahead
pub wants_ahead : (e : ElementDef) (work : Work) → wanted_work e ≡ Some work → work_ahead (Some e) ≡ Some work
wants_ahead e work wants = wanted_ahead (is_filled e.kind) e.way e.state work wants

last_by : (filled : Bool) (way : Way) (state to : ElementState) (work : Work) → WantedBy filled way state ≡ Some work → next_by filled way state ≡ Some to → next_by filled way to ≡ None
last_by true Adding WriteOnly to work e next = ap (λ (o : Option ElementState). next_by true Adding (unwrap_or o Public)) (sym next)
last_by true Dropping DeleteOnly to work e next = ap (λ (o : Option ElementState). next_by true Dropping (unwrap_or o Absent)) (sym next)
last_by false Dropping DeleteOnly to work e next = ap (λ (o : Option ElementState). next_by false Dropping (unwrap_or o Absent)) (sym next)
last_by false Adding Absent to work e next = none_some e
last_by false Adding DeleteOnly to work e next = none_some e
last_by false Adding WriteOnly to work e next = none_some e
last_by false Adding Public to work e next = none_some e
last_by filled way state to work e next = none_some e

way_by : (filled : Bool) (way : Way) (state to : ElementState) → next_by filled way state ≡ Some to → unwrap_or (edge_by filled way state to) way ≡ way
way_by true Adding DeleteOnly WriteOnly e = refl
way_by true Adding WriteOnly Public e = refl
way_by true Dropping WriteOnly DeleteOnly e = refl
way_by true Dropping DeleteOnly Absent e = refl
way_by false Adding DeleteOnly Public e = refl
way_by false Dropping DeleteOnly Absent e = refl
way_by filled way state to e = absurd cc

way_stays : (e : ElementDef) (to : ElementState) → next_state e ≡ Some to → (in_state e to).way ≡ e.way
way_stays e to next = way_by (is_filled e.kind) e.way e.state to next

range_stays : (k : Kind) (e : ElementDef) (to : ElementState) → cleared k (in_state e to) ≡ cleared k e
range_stays (Index columns) e to = refl
range_stays (Optional type) e to = refl
range_stays (Required type fallback) e to = refl

items_stay : (P : Pairs) (e : ElementDef) (to : ElementState) (o : Option Work) → items_of P (Some (in_state e to)) o ≡ items_of P (Some e) o
items_stay P e to None = refl
items_stay P e to (Some Fill) = refl
items_stay P e to (Some Clear) = ap (λ (r : _). length (items r P)) (range_stays e.kind e to)

-- ---- what is ahead

module _ (pieces limit : ℕ) (P : Pairs) where
  abbrev pub ahead_by : Option ElementDef → Option Progress → ℕ
  ahead_by element begun = items_by P element begun + limit * pieces_by pieces element begun

  abbrev pub ahead_of : Option ElementDef → Option Work → ℕ
  ahead_of element work = items_of P element work + limit * cond (is_some work) pieces 0

  less_times : (a b : ℕ) → a ≤ b → limit * a ≤ limit * b
  less_times a b le = grind (arith, le)

  nothing : (o : Option ElementDef) → work_ahead o ≡ None → ahead_by o None ≡ 0
  nothing None is = grind arith
  nothing (Some e) is = ap (ahead_of (Some e)) is ∙ (grind arith)

  -- ---- a begin

  open_most : (ss : List Span) → open_pieces ss ≤ length ss
  open_most [] = omega arith
  open_most (s ∷ ss) = by (is_ended s) (open_most ss)
    where
      by : (b : Bool) → open_pieces ss ≤ length ss → cond b 0 1 + open_pieces ss ≤ suc (length ss)
      by true rest = omega (arith, rest)
      by false rest = omega (arith, rest)

  open_more : (ss : List Span) (s : Span) → open_pieces (ss ++ s ∷ []) ≤ open_pieces ss + 1
  open_more [] s = by (is_ended s)
    where
      by : (b : Bool) → cond b 0 1 + 0 ≤ 0 + 1
      by true = omega arith
      by false = omega arith
  open_more (q ∷ ss) s = let rest = open_more ss s in omega (arith, rest)

  open_spans : (e : ElementDef) (w : Work) (n k : ℕ) → open_pieces (spans (scan_range_of e w) (items (scan_range_of e w) P) n k) ≤ k
  open_spans e w n zero = omega arith
  open_spans e w n (suc k) =
      let rest = open_spans e w n k in
      let more = open_more (spans (scan_range_of e w) (items (scan_range_of e w) P) n k) (span_at (scan_range_of e w) (items (scan_range_of e w) P) n k) in
      omega (arith, rest, more)

  pub begun_ahead : (e : ElementDef) (w : Work) → 0 < pieces → wanted_work e ≡ Some w → ahead_by (Some e) (Some (begun e w P pieces)) ≤ ahead_by (Some e) None
  begun_ahead e w some wants =
      let all = all_left e w P pieces some in
      let few = less_times (open_pieces (begun e w P pieces).pieces) pieces (open_spans e w pieces pieces) in
      let was : ahead_by (Some e) None ≡ length (items (scan_range_of e w) P) + limit * pieces = ap (ahead_of (Some e)) (wants_ahead e w wants) in
      omega (arith, all, few, was)

  -- ---- its own move

  -- with a part of the way less, the work ahead is the same or none
  moved_by : (e : ElementDef) (to : ElementState) (b c : Bool) → c ≡ true → ahead_of (Some (in_state e to)) (cond b (way_work (is_filled e.kind) e.way) None) ≤ ahead_of (Some e) (cond c (way_work (is_filled e.kind) e.way) None)
  moved_by e to false c is = let none : limit * 0 ≡ 0 = grind arith in omega (arith, none)
  moved_by e to true c is =
      let same = items_stay P e to (way_work (is_filled e.kind) e.way) in
      subst (λ (x : Bool). ahead_of (Some (in_state e to)) (way_work (is_filled e.kind) e.way) ≤ ahead_of (Some e) (cond x (way_work (is_filled e.kind) e.way) None)) (sym is) (omega (arith, same))

  live_ahead : (e : ElementDef) (to : ElementState) (o : Option Progress) → next_state e ≡ Some to → ((p : Progress) → o ≡ Some p → wanted_work e ≡ Some p.kind) → ahead_by (Some (in_state e to)) None ≤ ahead_by (Some e) o
  live_ahead e to None next wants =
      subst (λ (w : Way). ahead_of (Some (in_state e to)) (cond (is_some (next_by (is_filled e.kind) w to)) (way_work (is_filled e.kind) w) None) ≤ ahead_by (Some e) None) (sym (way_stays e to next))
      (moved_by e to (is_some (next_by (is_filled e.kind) e.way to)) (is_some (next_state e)) (ap is_some next))
  live_ahead e to (Some p) next wants =
      let rests : next_by (is_filled e.kind) (in_state e to).way to ≡ None = ap (λ (w : Way). next_by (is_filled e.kind) w to) (way_stays e to next) ∙ last_by (is_filled e.kind) e.way e.state to p.kind (wants p refl) next in
      let none = nothing (Some (in_state e to)) (ap (λ (q : Option ElementState). cond (is_some q) (way_work (is_filled e.kind) (in_state e to).way) None) rests) in
      omega (arith, none)

  pub moved_ahead : (e : ElementDef) (to : ElementState) (o : Option Progress) → next_state e ≡ Some to → ((p : Progress) → o ≡ Some p → wanted_work e ≡ Some p.kind) → ahead_by (in_state_or_none e to) None ≤ ahead_by (Some e) o
  moved_ahead e Absent o next wants = let none = nothing None refl in omega (arith, none)
  moved_ahead e DeleteOnly o next wants = live_ahead e DeleteOnly o next wants
  moved_ahead e WriteOnly o next wants = live_ahead e WriteOnly o next wants
  moved_ahead e Public o next wants = live_ahead e Public o next wants
