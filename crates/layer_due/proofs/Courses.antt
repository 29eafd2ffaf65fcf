-- A course lowers what is left with each act, and goes on until nothing is due.
use Rattle.std.proofs.Common.{◌≡◌, List, [], ◌∷◌, drop, refl, sym, ap, subst, ◌∙◌, arith}
use Rattle.row_map.specs.Rows.{Bytes}
use Rattle.schema_version.specs.declared.step.Move.{Move}
use Rattle.schema_version.specs.Version.{Version}
use Rattle.replay.specs.Kept.{IsKept}
use Rattle.replay.specs.Replay.{Facts, start}
use Rattle.drafts.specs.declared.newest.Newest.{Newest}
use Rattle.drafts.specs.Calls.{Call, Transact, Close, Begin, Divide, Piece, Publish, draft_of, IsDrafted}
use Rattle.drafts.specs.Laws.{after_calls, opening_of}
use Rattle.drafts.specs.Log.{after_one, after_log}
use Rattle.drafts.specs.Mirror.{Mirrors}
use Rattle.drafts.specs.Store.{Store, MayApply, applied, opened}
use Rattle.drafts.proofs.Runs.{all_keep, all_end, opened_so, first_mirror}
use Rattle.layer_due.specs.Records.{Records}
use Rattle.layer_due.specs.Due.{IsDue, NoneWants, NoneOpen}
use Rattle.layer_due.specs.Applies.{HasRecords}
use Rattle.layer_due.specs.Course.{Turn, IsCourse, DoesDue, ArePlanned, CoursesComplete, act_of, acts_in, after_steps, after_turns, steps_after, steps_by}
use Rattle.layer_due.specs.declared.act.Act.TheVariants as act
use Rattle.layer_due.proofs.Leads.{Leads, stays, txn_makes, close_makes, begin_makes, divide_makes, piece_makes}
use Rattle.layer_due.proofs.NextAct.{next_act}
use Rattle.layer_due.proofs.Published.{publish_leads}
use Rattle.layer_due.proofs.Same.{same_newest, same_left}

-- ---- one turn

turn_leads : (keys : List Bytes) (facts next : Facts) (store : Store) (old new : Records) (steps : List (List Move)) (call : Call) → IsKept facts → Mirrors facts store → HasRecords store old → IsDrafted call → MayApply (draft_of call) store → DoesDue keys old steps call
    → IsKept next → Mirrors next (applied (draft_of call) store) → HasRecords (applied (draft_of call) store) new → Leads keys (act_of call) old steps (steps_after steps call) new
turn_leads keys facts next store old new steps (Transact txn mark) k m has made may does nk nm nh = stays keys facts store old steps k m has 0 next _ new nk nm nh (txn_makes keys facts store old steps k m has txn mark)
turn_leads keys facts next store old new steps (Close newest) k m has made may does nk nm nh = stays keys facts store old steps k m has 1 next _ new nk nm nh (close_makes keys facts store old steps k m has newest may does)
turn_leads keys facts next store old new steps (Begin b) k m has made may does nk nm nh = stays keys facts store old steps k m has 1 next _ new nk nm nh (begin_makes keys facts store old steps k m has b made may does)
turn_leads keys facts next store old new steps (Divide d) k m has made may does nk nm nh = stays keys facts store old steps k m has 1 next _ new nk nm nh (divide_makes keys facts store old steps k m has d made may does)
turn_leads keys facts next store old new steps (Piece w) k m has made may does nk nm nh = stays keys facts store old steps k m has 1 next _ new nk nm nh (piece_makes keys facts store old steps k m has w made may does.0 does.1)
turn_leads keys facts next store old new steps (Publish p) k m has made may does nk nm nh =
    subst (λ (more : List (List Move)). Leads keys 1 old steps more new) (sym (ap (drop 1) does.1.1)) (publish_leads keys facts store old steps k m has p may next new nk nm nh does.1.0 does.1.1)

-- ---- all turns

-- what is found at the beginning of the turns, or after the last
abbrev first_found : List Turn → Records → Records
first_found [] now = now
first_found (turn ∷ turns) now = turn.found

first_has : (keys : List Bytes) (store : Store) (steps : List (List Move)) (turns : List Turn) (now : Records) → IsCourse keys store steps turns → HasRecords (after_turns store turns) now → HasRecords store (first_found turns now)
first_has keys store steps [] now course has = has
first_has keys store steps (turn ∷ turns) now course has = course.0.has

record Ended (keys : List Bytes) (steps : List (List Move)) (turns : List Turn) (store : Store) (now : Records) : Type 0 where
  pub facts : Facts
  pub kept : IsKept facts
  pub mirrors : Mirrors facts store
  pub leads : Leads keys (acts_in turns) (first_found turns now) steps (steps_by steps turns) now

all_turns : (keys : List Bytes) (facts : Facts) (store : Store) (steps : List (List Move)) (turns : List Turn) (now : Records) → IsKept facts → Mirrors facts store → IsCourse keys store steps turns → HasRecords (after_turns store turns) now
    → Ended keys steps turns (after_turns store turns) now
all_turns keys facts store steps [] now k m course has = record { facts = facts; kept = k; mirrors = m; leads = record { lower = omega arith; planned = λ p. p; target = refl } }
all_turns keys facts store steps (turn ∷ turns) now k m course has =
    let after = applied (draft_of turn.call) store in
    let one = course.0 in
    let next = all_keep facts store turn.call k m one.drafted one.applies in
    let more = steps_after steps turn.call in
    let lead = turn_leads keys facts (after_one facts next.one) store turn.found (first_found turns now) steps turn.call k m one.has one.drafted one.applies one.does next.kept next.mirrors (first_has keys after more turns now course.1 has) in
    let rest = all_turns keys (after_one facts next.one) after more turns now next.kept next.mirrors course.1 has in
    record {
      facts = rest.facts;
      kept = rest.kept;
      mirrors = rest.mirrors;
      leads = record { lower = omega (arith, lead.lower, rest.leads.lower); planned = λ p. rest.leads.planned (lead.planned p); target = rest.leads.target ∙ lead.target };
    }

ended : (now : Records) (more : List (List Move)) (target : Version) → after_steps now.newest.schema more ≡ target → IsDue now more act.Nothing → (now.newest.schema ≡ target) × NoneWants now × NoneOpen now
ended now more target is due = (ap (after_steps now.newest.schema) (sym due.1) ∙ is, due.0, due.2)

pub courses_complete : CoursesComplete
courses_complete schema before keys steps turns found now sound made may has planned course now_has =
    let store = after_calls (opened schema) before in
    let all = all_end (start (opening_of schema)) (opened schema) before (opened_so schema sound) (first_mirror schema sound) made may in
    let facts = after_log (start (opening_of schema)) all.log in
    let first = first_has keys store steps turns now course now_has in
    let same = same_newest facts store found (first_found turns now) all.kept all.mirrors has first in
    let equal = same_left keys facts store found (first_found turns now) all.kept all.mirrors has first steps in
    let end = all_turns keys facts store steps turns now all.kept all.mirrors course now_has in
    let still = end.leads.planned (subst (λ (n : Newest). ArePlanned n.schema steps) same planned) in
    let target = end.leads.target ∙ ap (λ (n : Newest). after_steps n.schema steps) (sym same) in
    record {
      few = omega (arith, end.leads.lower, equal);
      planned = still;
      target = target;
      goes_on = next_act end.facts (after_turns store turns) now end.kept end.mirrors now_has keys (steps_by steps turns) still;
      ends = ended now (steps_by steps turns) (after_steps found.newest.schema steps) target;
    }
