use Rattle.rollout_example.proofs.run.run_threads.Given as goal

abbrev pub ghosts-share-L-Ledger : goal.ghosts-share-L-Ledger
ghosts-share-L-Ledger g a = record { name = a.blanks.added.name; parts = a.blanks.added.parts }

abbrev pub ghosts-share-L-SharedLedger : goal.ghosts-share-L-SharedLedger
ghosts-share-L-SharedLedger g a = record { handles = a.blanks.added.parts; start = a.world; taken_name = a.blanks.taken.name; refused_name = a.blanks.refused.name; cut_name = a.blanks.cut.name }
