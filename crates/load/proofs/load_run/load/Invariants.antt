use Rattle.load.proofs.load_run.load.Given as goal

abbrev pub ghosts-load_in-L-Ledger : goal.ghosts-load_in-L-Ledger
ghosts-load_in-L-Ledger g a = record { name = a.blanks.added.name; parts = a.blanks.added.parts }

abbrev pub ghosts-load_in-L-SharedLedger : goal.ghosts-load_in-L-SharedLedger
ghosts-load_in-L-SharedLedger g a = record { handles = a.blanks.added.parts; start = a.world; taken_name = a.blanks.taken.name; refused_name = a.blanks.refused.name; cut_name = a.blanks.cut.name }
