use Rattle.typed_calls.proofs.ReadRows.{key_values, read_answer}
use Rattle.typed_calls.proofs.read_queries.answer_sound.Goals as goal

pub returns-in-Ok : goal.returns-in-Ok
returns-in-Ok c =
    read_answer c.args.schema.now c.lemma_known.ensures c.args.view.now c.args.query.now c.args.key.now c.requires.named c.requires.sound (c.in-Ok-true.ensures.0 c.in-Ok-true.field-0-test)
    (key_values c.args.query.now c.args.key.now c.requires.coded c.requires.named) c.in-Ok.rows c.in-Ok.ensures
