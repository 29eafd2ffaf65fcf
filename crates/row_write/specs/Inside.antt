-- Cited by the contracts of Prepared.
-- What the fields of a Prepared stand for.
use Rattle.row_write.specs.declared.prepared.Prepared.TheInside.{Inside}
use Rattle.row_write.specs.Made.{PreparedTxn, IsMade}

abbrev pub prepared_of : Inside → PreparedTxn
prepared_of fields =
    record {
      schema = fields.schema;
      lease = fields.lease;
      ops = fields.ops;
      expect = fields.expect;
      batch = fields.batch;
      reported = fields.reported;
    }

abbrev pub IsHeld : Inside → Type 0
IsHeld fields = IsMade (prepared_of fields)
