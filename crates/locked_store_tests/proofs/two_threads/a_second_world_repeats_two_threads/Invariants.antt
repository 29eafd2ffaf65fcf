use Rattle.locked_store_tests.proofs.two_threads.a_second_world_repeats_two_threads.Given as goal

abbrev pub ghosts-two_at_once-L-Ledger : goal.ghosts-two_at_once-L-Ledger
ghosts-two_at_once-L-Ledger g a = record { name = a.blanks.added.name; parts = a.blanks.added.parts }

abbrev pub ghosts-two_at_once-L-SharedLedger : goal.ghosts-two_at_once-L-SharedLedger
ghosts-two_at_once-L-SharedLedger g a = record { handles = a.blanks.added.parts; start = a.world; taken_name = a.blanks.taken.name; refused_name = a.blanks.refused.name; cut_name = a.blanks.cut.name }
