use Rattle.std.proofs.Common.{◌≡◌, ◌∙◌, ◌++◌, Some, sym, ap, subst, length, set}
use Rattle.byte_map.specs.Sorted.{IsAt, IsGap, changed}
use Rattle.byte_map.proofs.Search.{changed_nothing}
use Rattle.page_map.specs.inner.FlatPairs.{marked, encoded, AllWithin}
use Rattle.page_map.proofs.Encoded.{within_more, within_set, within_insert, within_remove, set_changes, insert_changes, remove_changes}
use Rattle.page_map.proofs.slots.edit.Goals as goal

pub returns-in_err-slots-in-Ok-Some-clause-within : goal.returns-in_err-slots-in-Ok-Some-clause-within
returns-in_err-slots-in-Ok-Some-clause-within c = within_more _ _ _ c.lay.ensures.grown c.requires.within

pub returns-in_err-slot-in-Err-Some-clause-within : goal.returns-in_err-slot-in-Err-Some-clause-within
returns-in_err-slot-in-Err-Some-clause-within c = within_more _ _ _ c.lay-in-Err-Some.ensures.grown c.requires.within

pub returns-in_err-insert-in-Err-Some-clause-within : goal.returns-in_err-insert-in-Err-Some-clause-within
returns-in_err-insert-in-Err-Some-clause-within c =
    subst (AllWithin (length c.lay-in-Err-Some.new.bytes.items)) (sym c.in_err-insert-in-Err-Some.ensures.items) (within_more _ _ _ c.lay-in-Err-Some.ensures.grown c.requires.within)

pub returns-in_ok-slots-in-Ok-Some-clause-within : goal.returns-in_ok-slots-in-Ok-Some-clause-within
returns-in_ok-slots-in-Ok-Some-clause-within c =
    within_set _ _ _ _ (within_more _ _ _ c.lay.ensures.grown c.requires.within) c.in_ok-slots-in-Ok-Some.ensures.within

pub returns-in-Ok-None-clause-within : goal.returns-in-Ok-None-clause-within
returns-in-Ok-None-clause-within c = subst (AllWithin (length c.args.bytes.now.items)) (sym c.remove.ensures.items) (within_remove _ _ _ c.requires.within)

pub returns-in_ok-insert-in-Err-Some-clause-within : goal.returns-in_ok-insert-in-Err-Some-clause-within
returns-in_ok-insert-in-Err-Some-clause-within c =
    subst (AllWithin (length c.lay-in-Err-Some.new.bytes.items)) (sym c.in_ok-insert-in-Err-Some.ensures.items)
    (within_insert _ _ _ _ (within_more _ _ _ c.lay-in-Err-Some.ensures.grown c.requires.within) c.in_ok-slot-in-Err-Some.ensures.within)

pub returns-in_ok-slots-in-Ok-Some-clause-written : goal.returns-in_ok-slots-in-Ok-Some-clause-written
returns-in_ok-slots-in-Ok-Some-clause-written c =
    let bytes = c.args.bytes.now.items in
    let slots = c.args.slots.now.items in
    let key = c.args.key.now in
    let laid = c.in_ok-slots-in-Ok-Some.ensures in
    let slot = c.in_ok-slots-in-Ok-Some.field-0 in
    let value = c.as_slice.result.now in
    let here : marked (bytes ++ (key ++ value)) slot ≡ (key, value) = subst (λ b. marked b slot ≡ (key, value)) laid.kept laid.marked in
    let place : IsAt (encoded bytes slots) key c.in-Ok-Some.at = rw c.in-Ok-Some.is-0 at c.requires.found in
    ap (λ b. encoded b (set slots c.in-Ok-Some.at slot)) laid.kept
    ∙ set_changes bytes (key ++ value) slots c.requires.within key c.in-Ok-Some.at slot value here place
    ∙ ap (changed (encoded bytes slots) key) (ap Some c.as_slice.ensures ∙ sym c.in-Ok-Some.is-1)

pub returns-in-Ok-None-clause-written : goal.returns-in-Ok-None-clause-written
returns-in-Ok-None-clause-written c =
    let bytes = c.args.bytes.now.items in
    let slots = c.args.slots.now.items in
    let key = c.args.key.now in
    let place : IsAt (encoded bytes slots) key c.in-Ok-None.at = rw c.in-Ok-None.is-0 at c.requires.found in
    ap (encoded bytes) c.remove.ensures.items
    ∙ remove_changes bytes slots key c.in-Ok-None.at place
    ∙ ap (changed (encoded bytes slots) key) (sym c.in-Ok-None.is-1)

pub returns-in_ok-insert-in-Err-Some-clause-written : goal.returns-in_ok-insert-in-Err-Some-clause-written
returns-in_ok-insert-in-Err-Some-clause-written c =
    let bytes = c.args.bytes.now.items in
    let slots = c.args.slots.now.items in
    let key = c.args.key.now in
    let laid = c.in_ok-slot-in-Err-Some.ensures in
    let slot = c.in_ok-slot-in-Err-Some.slot in
    let value = c.as_slice-in-Err-Some.result.now in
    let at = c.in-Err-Some.at in
    let here : marked (bytes ++ (key ++ value)) slot ≡ (key, value) = subst (λ b. marked b slot ≡ (key, value)) laid.kept laid.marked in
    let place : IsGap (encoded bytes slots) key at = rw c.in-Err-Some.is-0 at c.requires.absent in
    (λ i. encoded (laid.kept i) (c.in_ok-insert-in-Err-Some.ensures.items i))
    ∙ insert_changes bytes (key ++ value) slots c.requires.within key at slot value here place
    ∙ ap (changed (encoded bytes slots) key) (ap Some c.as_slice-in-Err-Some.ensures ∙ sym c.in-Err-Some.is-1)

pub returns-in-Err-None-clause-written : goal.returns-in-Err-None-clause-written
returns-in-Err-None-clause-written c =
    let bytes = c.args.bytes.now.items in
    let slots = c.args.slots.now.items in
    let key = c.args.key.now in
    let place : IsGap (encoded bytes slots) key c.in-Err-None.field-0-0 = rw c.in-Err-None.is-0 at c.requires.absent in
    changed_nothing (encoded bytes slots) key _ place
    ∙ ap (changed (encoded bytes slots) key) (sym c.in-Err-None.is-1)
