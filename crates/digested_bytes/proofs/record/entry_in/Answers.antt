use Rattle.std.proofs.Common.{rules}
use Rattle.digested_bytes.proofs.Records.{has_none, has_record, other_place, too_short}
use Rattle.digested_bytes.proofs.record.entry_in.Goals as goal

pub returns-then-found-place-clause-none : goal.returns-then-found-place-clause-none
returns-then-found-place-clause-none c = other_place c.args.place c.in-Some.found c.args.bytes.now c.in-Some.rest.now (search rules) (search rules) (search rules) (search rules)

pub returns-in_default-entry_of-clause-none : goal.returns-in_default-entry_of-clause-none
returns-in_default-entry_of-clause-none c =
    too_short c.args.place c.in-Some.found c.args.bytes.now c.in-Some.rest.now (search rules) (search rules) (search rules) c.in-Some-number_of.size c.in-Some-number_of.rest.now (search rules) (search rules) (search rules)

pub returns-then-has_digest-clause-found : goal.returns-then-has_digest-clause-found
returns-then-has_digest-clause-found c =
    has_record c.args.place c.in-Some.found c.args.bytes.now c.in-Some.rest.now (search rules) (search rules) (search rules) c.in-Some-number_of.size c.in-Some-number_of.rest.now (search rules) (search rules)
    (search rules) c.in-Some-entry_of.entry.now c.in-Some-entry_of.rest.now c.split_at.result.0.now c.split_at.result.1.now c.split_at-2.result.0.now (search rules) (search rules) (search rules)
    (search rules) (search rules) (search rules) (search rules)

pub returns-else-has_digest-clause-none : goal.returns-else-has_digest-clause-none
returns-else-has_digest-clause-none c =
    has_none c.args.place c.in-Some.found c.args.bytes.now c.in-Some.rest.now (search rules) (search rules) (search rules) c.in-Some-number_of.size c.in-Some-number_of.rest.now (search rules) (search rules)
    (search rules) c.in-Some-entry_of.entry.now c.in-Some-entry_of.rest.now c.split_at.result.0.now c.split_at.result.1.now c.split_at-2.result.0.now (search rules) (search rules) (search rules)
    (search rules) (search rules) (search rules) (search rules)
