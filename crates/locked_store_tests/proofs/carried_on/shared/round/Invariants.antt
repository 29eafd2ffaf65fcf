use Rattle.locked_store_tests.proofs.carried_on.shared.round.Given as goal

abbrev pub ghosts-driven-L-Ledger : goal.ghosts-driven-L-Ledger
ghosts-driven-L-Ledger g a = record { name = a.blanks.added.name; parts = a.blanks.added.parts }

abbrev pub ghosts-driven-L-SharedLedger : goal.ghosts-driven-L-SharedLedger
ghosts-driven-L-SharedLedger g a = record { handles = a.blanks.added.parts; start = a.world; taken_name = a.blanks.taken.name; refused_name = a.blanks.refused.name; cut_name = a.blanks.cut.name }
