use Rattle.tasks.proofs.perform.perform_all.Given as goal

abbrev pub ghosts-perform_in : goal.ghosts-perform_in
ghosts-perform_in g a = record { table = a.opened.table.shared.table_id; total = a.opened.total; seats = a.opened.seats }
