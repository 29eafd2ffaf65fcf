use Rattle.std.proofs.Common.{◌≡◌, ◌∙◌, Err, ap, length, refl, sym, subst}
use mathlib.Core.List.{map as each}
use Rattle.std.specs.Vec.{with_items}
use Rattle.std.proofs.lemmas.List.{length-map, with_items_is}
use Rattle.std.proofs.lemmas.Result.{err_from_is_err_and}
use Rattle.txn_store.specs.TestAndSet.{Sets}
use Rattle.reorganise.specs.Batches.{expect_of}
use Rattle.replay.specs.Replay.{moved_to}
use Rattle.world.specs.inner.Cursors.{cursor_of}
use Rattle.world.proofs.Invariant.{IsLogged, logged}
use Rattle.world.proofs.CallSteps.{same_state}
use Rattle.world.proofs.PieceSteps.{IsReady, entry_of, entry_of_parts, piece_short, piece_failed, piece_held, piece_done}
use Rattle.world.proofs.world.World.move_on.Goals as goal

pub returns-in_err-cursor : goal.returns-in_err-cursor
returns-in_err-cursor c =
    let p = err_from_is_err_and c.from_residual.result c.from_residual.ensures.1 in
    record { step = rw p.1 (piece_short c.args.self.now c.args.self.now c.args.now c.args.prepared.now p.0 c.requires.current refl p.2) }

pub returns-in_err-spare : goal.returns-in_err-spare
returns-in_err-spare c =
    let p = err_from_is_err_and c.from_residual-in_err-spare.result c.from_residual-in_err-spare.ensures.1 in
    record { step = rw p.1 (piece_short c.args.self.now c.args.self.now c.args.now c.args.prepared.now p.0 c.requires.current refl p.2) }

pub returns-in_err-draft : goal.returns-in_err-draft
returns-in_err-draft c =
    let p = err_from_is_err_and c.from_residual-in_err-draft.result c.from_residual-in_err-draft.ensures.1 in
    let same = same_state c.self.inside c.self.inside.store c.make_ready.new.self refl c.in_err-draft.ensures.entries ∙ c.self.view_is in
    record { step = rw p.1 (piece_short c.args.self.now _ c.args.now c.args.prepared.now p.0 c.requires.current same p.2) }

pub returns-in_err-test_and_set : goal.returns-in_err-test_and_set
returns-in_err-test_and_set c =
    let p = err_from_is_err_and c.from_residual-in_err-test_and_set.result c.from_residual-in_err-test_and_set.ensures.1 in
    let set =
    subst (λ b. Sets (expect_of c.args.prepared.now.key_range) b c.self.inside.store (Err c.in_err-test_and_set.field-0.0) c.test_and_set.new.self) c.batch.ensures
    (subst (λ e. Sets e c.batch.result.now c.self.inside.store (Err c.in_err-test_and_set.field-0.0) c.test_and_set.new.self) c.expect.ensures c.in_err-test_and_set.ensures) in
    record { step = rw p.1 (piece_failed c.self.inside c.args.self.now c.args.now c.args.prepared.now c.in_err-test_and_set.field-0.0 p.0 c.test_and_set.new.self c.make_ready.new.self c.self.view_is c.requires.current set c.in_ok-draft.ensures.entries p.2) }

pub invariant_of-self-2 : goal.invariant_of-self-2
invariant_of-self-2 c =
    let cursor = c.in_ok-cursor.ensures ∙ c.cursors.ensures.new in
    let is : entry_of_parts c.args.now c.element.result.now c.piece-piece.result c.in_ok-cursor.cursor ≡ entry_of c.args.now c.args.prepared.now = λ i. entry_of_parts c.args.now (c.element.ensures i) (c.piece-piece.ensures i) (cursor i) in
    let set = rw (c.expect.ensures, c.batch.ensures) at c.in_ok-test_and_set.ensures in
    let ready : IsReady c.self.inside c.args.self.now c.args.now c.args.prepared.now c.test_and_set.new.self
    = record { held = c.self.invariant; view = c.self.view_is; later = c.requires.later; current = c.requires.current; made = c.lemma_made.ensures; set = set } in
    let entered : IsLogged c.self.inside.log (entry_of c.args.now c.args.prepared.now) c.enter-receipt.result c.enter-receipt.new.self
    = logged c.self.inside.log c.make_ready.new.self c.enter-receipt.new.self c.in_ok-draft.draft (entry_of c.args.now c.args.prepared.now) c.enter-receipt.result c.in_ok-draft.ensures.entries (c.in_ok-draft.ensures.draft ∙ is)
    c.enter-receipt.ensures.entries c.enter-receipt.ensures.moment c.enter-receipt.ensures.receipt in
    let laid = c.in_ok-spare.ensures ∙ ap (each (cursor_of c.element.result.now.number c.in_ok-cursor.cursor)) (c.as_slice-2.ensures.value ∙ sym c.as_mut_slice.ensures.value) in
    let moved = c.move_cursors.ensures c.element.result.now.number c.in_ok-cursor.cursor laid in
    let all : (with_items c.self.inside.begun c.move_cursors.new.begun).items ≡ c.move_cursors.new.begun = with_items_is c.self.inside.begun c.move_cursors.new.begun (ap length moved ∙ length-map c.as_mut_slice.result.now (moved_to c.element.result.now.number c.piece-piece.result c.in_ok-cursor.cursor) ∙ c.as_mut_slice.ensures.len) in
    let begun = all ∙ moved ∙ ap (each (moved_to c.element.result.now.number c.piece-piece.result c.in_ok-cursor.cursor)) c.as_mut_slice.ensures.value ∙ (λ i. each (moved_to ((c.element.ensures i).number) (c.piece-piece.ensures i) (cursor i)) c.self.inside.begun.items) in
    piece_held c.self.inside c.args.self.now c.args.now c.args.prepared.now c.test_and_set.new.self (with_items c.self.inside.begun c.move_cursors.new.begun) c.enter-receipt.new.self c.enter-receipt.result c.lemma_pieces_keep.ensures ready begun entered

pub returns : goal.returns
returns c =
    let cursor = c.in_ok-cursor.ensures ∙ c.cursors.ensures.new in
    let is : entry_of_parts c.args.now c.element.result.now c.piece-piece.result c.in_ok-cursor.cursor ≡ entry_of c.args.now c.args.prepared.now = λ i. entry_of_parts c.args.now (c.element.ensures i) (c.piece-piece.ensures i) (cursor i) in
    let set = rw (c.expect.ensures, c.batch.ensures) at c.in_ok-test_and_set.ensures in
    let ready : IsReady c.self.inside c.args.self.now c.args.now c.args.prepared.now c.test_and_set.new.self
    = record { held = c.self.invariant; view = c.self.view_is; later = c.requires.later; current = c.requires.current; made = c.lemma_made.ensures; set = set } in
    let entered : IsLogged c.self.inside.log (entry_of c.args.now c.args.prepared.now) c.enter-receipt.result c.enter-receipt.new.self
    = logged c.self.inside.log c.make_ready.new.self c.enter-receipt.new.self c.in_ok-draft.draft (entry_of c.args.now c.args.prepared.now) c.enter-receipt.result c.in_ok-draft.ensures.entries (c.in_ok-draft.ensures.draft ∙ is)
    c.enter-receipt.ensures.entries c.enter-receipt.ensures.moment c.enter-receipt.ensures.receipt in
    record {
      step = piece_done c.self.inside c.args.self.now c.args.now c.is_key-ended.result c.args.prepared.now c.test_and_set.new.self (with_items c.self.inside.begun c.move_cursors.new.begun) c.enter-receipt.new.self c.enter-receipt.result c.lemma_pieces_keep.ensures ready entered
          (λ t. sym (c.as_slice.ensures ∙ cursor) ∙ c.is_key-ended.ensures.0 t ∙ c.bounds.ensures.high, λ e. c.is_key-ended.ensures.1 (c.as_slice.ensures ∙ cursor ∙ e ∙ sym c.bounds.ensures.high));
    }
