use Rattle.server_tests.proofs.turned.turns.Given as goal

abbrev pub ghosts-turned-L-Ledger : goal.ghosts-turned-L-Ledger
ghosts-turned-L-Ledger g a = record { name = a.blanks.added.name; parts = a.blanks.added.parts }

abbrev pub ghosts-turned-L-SharedLedger : goal.ghosts-turned-L-SharedLedger
ghosts-turned-L-SharedLedger g a = record { handles = a.blanks.added.parts; start = a.world; taken_name = a.blanks.taken.name; refused_name = a.blanks.refused.name; cut_name = a.blanks.cut.name }
