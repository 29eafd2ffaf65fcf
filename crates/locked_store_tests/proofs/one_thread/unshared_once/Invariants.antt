use Rattle.locked_store_tests.proofs.one_thread.unshared_once.Given as goal

abbrev pub ghosts-unshared-L-Ledger : goal.ghosts-unshared-L-Ledger
ghosts-unshared-L-Ledger a = record { name = a.blanks.added.name; parts = a.blanks.added.parts }

abbrev pub ghosts-unshared-L-SharedLedger : goal.ghosts-unshared-L-SharedLedger
ghosts-unshared-L-SharedLedger a = record { handles = a.blanks.added.parts; start = a.world; taken_name = a.blanks.taken.name; refused_name = a.blanks.refused.name; cut_name = a.blanks.cut.name }
