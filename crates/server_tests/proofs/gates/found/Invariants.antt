use Rattle.server_tests.proofs.gates.found.Given as goal

abbrev pub ghosts-serves-L-Ledger : goal.ghosts-serves-L-Ledger
ghosts-serves-L-Ledger g a = record { name = a.blanks.added.name; parts = a.blanks.added.parts }

abbrev pub ghosts-serves-L-SharedLedger : goal.ghosts-serves-L-SharedLedger
ghosts-serves-L-SharedLedger g a = record { handles = a.blanks.added.parts; start = a.world; taken_name = a.blanks.taken.name; refused_name = a.blanks.refused.name; cut_name = a.blanks.cut.name }
