use Rattle.server_tests.proofs.contended.beside.Given as goal

abbrev pub ghosts-contended-L-Ledger : goal.ghosts-contended-L-Ledger
ghosts-contended-L-Ledger g a = record { name = a.blanks.added.name; parts = a.blanks.added.parts }

abbrev pub ghosts-contended-L-SharedLedger : goal.ghosts-contended-L-SharedLedger
ghosts-contended-L-SharedLedger g a = record { handles = a.blanks.added.parts; start = a.world; taken_name = a.blanks.taken.name; refused_name = a.blanks.refused.name; cut_name = a.blanks.cut.name }
