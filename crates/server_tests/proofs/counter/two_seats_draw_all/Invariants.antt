use Rattle.server_tests.proofs.counter.two_seats_draw_all.Given as goal

abbrev pub ghosts-two : goal.ghosts-two
ghosts-two g a = record { table = a.opened.table.shared.table_id; total = a.opened.total; seats = a.opened.seats }
