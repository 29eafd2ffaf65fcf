use Rattle.server_tests.proofs.counter.drawn_once.Given as goal

abbrev pub ghosts-alone : goal.ghosts-alone
ghosts-alone a = record { table = a.opened.table.shared.table_id; total = a.opened.total; seats = a.opened.seats }
