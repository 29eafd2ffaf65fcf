-- Cited by the contracts of Gone.
-- How lists of entries are told from one another.
use Rattle.std.specs.Prelude.{List}
use Rattle.std.specs.Coded.{Coded, coded_list}
use Rattle.replay.specs.declared.entry.Entry.{Entry}
use Rattle.replay.specs.contracts.entry.Entry as entry

abbrev pub entries_code : Coded (List Entry)
entries_code = coded_list entry.the_row.coded
