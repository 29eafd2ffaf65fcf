use Rattle.std.proofs.Common.{rules, arith, ◌≡◌, ◌++◌, ◌∷◌, [], List, ap, sym, ◌∙◌, append_assoc, map, reverse, subst, vec_len}
use Rattle.tasks.specs.Outcomes.{IsOnPlan, IsRow}
use Rattle.tasks.specs.declared.worker_slot.WorkerSlot.{WorkerSlot}
use Rattle.tasks.proofs.Places.{all_init, all_last, done_inside, held_none, still_free, once_here, free_here}
use Rattle.tasks.proofs.Seats.{reverse_push, held_all_last}
use Rattle.tasks.proofs.place.collect.Given.{Over}
use Rattle.tasks.proofs.place.collect.Goals as goal

abbrev Here : Over → Type 0
Here g = WorkerSlot g.row.W.Denot g.row.T.Denot g.row.W-Outcome.Denot g.W.Worker g.T.Drawing

pub returns-clause-fits : goal.returns-clause-fits
returns-clause-fits g c plan on old = (c.loop-worker_slot.invariant.fits plan on old).1

pub loop-worker_slot-init : goal.loop-worker_slot-init
loop-worker_slot-init g c = record {
  len = search rules;
  room = search rules;
  workers = search rules;
  row = c.requires.row;
  fits = λ plan on old. (on, old);
  free = λ held empty x d none lt. held_none held c.args.outcomes.now.items empty x d lt;
  counted = λ held empty once. omega arith;
}

pub place-requires-clause-inside : goal.place-requires-clause-inside
place-requires-clause-inside g c κs within k d lt =
    omega (arith, done_inside g.T.Drawing.total c.in-Some.worker_slot.done.items c.in-Some.worker_slot.seat.drawn c.in-Some.worker_slot.numbers k d lt, c.loop-worker_slot.invariant.row.0)

pub place-requires-clause-row : goal.place-requires-clause-row
place-requires-clause-row g c κs within = (search rules, λ k d lt. c.loop-worker_slot.invariant.row.1 k d (omega (arith, c.loop-worker_slot.invariant.row.0)))

pub loop-worker_slot-preserved : goal.loop-worker_slot-preserved
loop-worker_slot-preserved g c =
    let before = c.loop-worker_slot.invariant in
    let worker_slot : Here g = c.in-Some.worker_slot in
    let ss : List (Here g) = c.pop.new.self.items in
    let is : c.loop-worker_slot.worker_slots.items ≡ ss ++ worker_slot ∷ [] = search rules in
    let more = c.push_reserved-in-Some.ensures.items in
    let t = g.T.Drawing.total in
    let os = c.loop-worker_slot.outcomes.items in
    let size : vec_len c.loop-worker_slot.outcomes ≡ t = omega (arith, before.row.0) in
    record {
      len = search rules;
      room = search rules;
      workers =
          ap (λ l. l ++ reverse (map (λ (s : Here g). s.worker) ss)) c.push_reserved.ensures.items
          ∙ append_assoc c.loop-worker_slot.workers.items (worker_slot.worker ∷ []) (reverse (map (λ (s : Here g). s.worker) ss))
          ∙ ap (λ l. c.loop-worker_slot.workers.items ++ l) (sym (reverse_push (λ (s : Here g). s.worker) ss worker_slot))
          ∙ ap (λ (l : List (Here g)). c.loop-worker_slot.workers.items ++ reverse (map (λ (s : Here g). s.worker) l)) (sym is)
          ∙ before.workers;
      row = subst (λ n. IsRow n c.place.new.outcomes.items) size c.place.ensures.row.1;
      fits = λ plan on old.
          let both = before.fits plan on old in
          let P : Here g → Type 0 = λ s. IsOnPlan g.W.Worker.plan g.W.Worker.fits plan s.worker s.done.items in
          (all_init P c.loop-worker_slot.worker_slots.items ss worker_slot is both.0, c.place.ensures.fits plan (all_last P c.loop-worker_slot.worker_slots.items ss worker_slot is both.0).1 both.1);
      free = λ held empty. still_free held t c.loop-worker_slot.seats.items _ worker_slot.seat os _ worker_slot.done.items more worker_slot.numbers (omega (arith, c.place.ensures.row.1.0, before.row.0, size)) c.place.ensures.others (before.free held empty);
      counted = λ held empty once.
          let both = once_here t c.loop-worker_slot.seats.items _ worker_slot.seat worker_slot.done.items more worker_slot.numbers once in
          let free = free_here held t c.loop-worker_slot.seats.items _ worker_slot.seat os worker_slot.done.items more worker_slot.numbers once (before.free held empty) in
          omega (arith, before.counted held empty both.0, c.place.ensures.counted held both.1 free, held_all_last held (λ (s : Here g). s.done.items) c.loop-worker_slot.worker_slots.items ss worker_slot is);
    }
