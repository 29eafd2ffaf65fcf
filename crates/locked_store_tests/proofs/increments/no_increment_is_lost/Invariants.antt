use Rattle.locked_store_tests.proofs.increments.no_increment_is_lost.Given as goal

abbrev pub ghosts-both_at_once-L-Ledger : goal.ghosts-both_at_once-L-Ledger
ghosts-both_at_once-L-Ledger g a = record { name = a.blanks.added.name; parts = a.blanks.added.parts }

abbrev pub ghosts-both_at_once-L-SharedLedger : goal.ghosts-both_at_once-L-SharedLedger
ghosts-both_at_once-L-SharedLedger g a = record { handles = a.blanks.added.parts; start = a.world; taken_name = a.blanks.taken.name; refused_name = a.blanks.refused.name; cut_name = a.blanks.cut.name }
