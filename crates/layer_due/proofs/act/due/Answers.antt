use Rattle.std.proofs.Common.{List, option_map, sym, ap, ◌∙◌, true≢false}
use Rattle.std.specs.Option.{option_copied}
use Rattle.layer_due.specs.Records.{Cursor, cursor_in}
use Rattle.layer_due.proofs.act.due.Goals as goal

pub returns-in-Some-cursor_of-clause-due : goal.returns-in-Some-cursor_of-clause-due
returns-in-Some-cursor_of-clause-due c = (
  c.in_default.ensures,
  λ ready. true≢false (sym (c.is_next_ready.ensures.1 ready) ∙ c.if-is_next_ready.false),
  c.in-Some-find_open.ensures.0,
  (
    c.in-Some-cursor_of.field-0.now.key,
    ap (λ (cursors : List Cursor). cursor_in cursors c.in-Some-find_open.element c.in-Some-find_open.piece) (sym c.as_slice.ensures) ∙ sym c.cursor_of.ensures
        ∙ ap (λ o. option_map (λ (cursor : Cursor). cursor.key) (option_copied o)) c.in-Some-cursor_of.is,
  ),
)
