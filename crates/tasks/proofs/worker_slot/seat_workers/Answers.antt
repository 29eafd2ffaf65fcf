use Rattle.std.proofs.Common.{rules, ◌≡◌, ◌++◌, ◌∷◌, [], List, ap, sym, ◌∙◌, append_assoc, map, reverse}
use Rattle.std.proofs.lemmas.List.Elements.{All-same, All-push}
use Rattle.claims.specs.Seats.{all_drawn}
use Rattle.tasks.specs.declared.worker_slot.WorkerSlot.{WorkerSlot}
use Rattle.tasks.proofs.Places.{all_init}
use Rattle.tasks.proofs.Seats.{reverse_push, idle_init}
use Rattle.tasks.proofs.worker_slot.seat_workers.Given.{Over}
use Rattle.tasks.proofs.worker_slot.seat_workers.Goals as goal

abbrev Here : Over → Type 0
Here g = WorkerSlot g.row.W.Denot g.row.T.Denot g.row.W-Outcome.Denot g.W.Worker g.T.Drawing

pub loop-worker-preserved : goal.loop-worker-preserved
loop-worker-preserved g c =
    let W : Type 0 = g.row.W.Denot in
    let before = c.loop-worker.invariant in
    let ws : List W = c.pop.new.self.items in
    let w : W = c.in-Some.worker in
    let ss : List (Here g) = c.loop-worker.worker_slots.items in
    let is : c.loop-worker.workers.items ≡ ws ++ w ∷ [] = search rules in
    let seats_is : c.loop-worker.seats.items ≡ c.pop-in-Some.new.self.items ++ c.in-Some-pop.seat ∷ [] = search rules in
    let more = c.push_reserved.ensures.items in
    record {
      seats = search rules;
      len = search rules;
      room = search rules;
      rooms = search rules;
      drawn = idle_init c.pop-in-Some.new.self.items c.in-Some-pop.seat (ap all_drawn (sym seats_is) ∙ before.drawn);
      workers =
          ap (λ (l : List (Here g)). ws ++ reverse (map (λ (s : Here g). s.worker) l)) more
          ∙ ap (λ l. ws ++ l) (reverse_push (λ (s : Here g). s.worker) ss _)
          ∙ sym (append_assoc ws (w ∷ []) (reverse (map (λ (s : Here g). s.worker) ss)))
          ∙ ap (λ l. l ++ reverse (map (λ (s : Here g). s.worker) ss)) (sym is)
          ∙ before.workers;
      idle = All-same (λ (s : Here g). s.done.items ≡ []) _ _ more (All-push (λ (s : Here g). s.done.items ≡ []) ss _ before.idle c.new.ensures.items);
      planned = all_init (λ (v : W). g.W.Worker.total (g.W.Worker.plan v) ≡ g.T.Drawing.total) c.loop-worker.workers.items ws w is before.planned;
    }
