-- Cited by the contracts of Checkpoint.
-- What the fields of a Checkpoint stand for, and what is true of them.
use Rattle.checkpoint_check.specs.Checkpoint.{Checkpoint, IsWhole}
use Rattle.world.specs.declared.checkpoints.Checkpoint.TheInside.{Inside}

abbrev pub said : Inside → Checkpoint
said fields = record { place = fields.place; moment = fields.moment; line = fields.line; newest = fields.newest; before = fields.before; progress = fields.begun.items; pairs = fields.store }

abbrev pub IsWholeInside : Inside → Type 0
IsWholeInside fields = IsWhole (said fields)
