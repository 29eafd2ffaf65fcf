use Rattle.server_tests.proofs.refusals.is_worked_off.Given as goal

abbrev pub ghosts-works-L-Ledger : goal.ghosts-works-L-Ledger
ghosts-works-L-Ledger g a = record { name = a.blanks.added.name; parts = a.blanks.added.parts }

abbrev pub ghosts-works-L-SharedLedger : goal.ghosts-works-L-SharedLedger
ghosts-works-L-SharedLedger g a = record { handles = a.blanks.added.parts; start = a.world; taken_name = a.blanks.taken.name; refused_name = a.blanks.refused.name; cut_name = a.blanks.cut.name }
