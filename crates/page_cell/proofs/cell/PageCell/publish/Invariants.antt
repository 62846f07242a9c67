use Rattle.page_cell.proofs.cell.PageCell.publish.Given as goal

abbrev pub ghosts-store_count : goal.ghosts-store_count
ghosts-store_count a = record { entry = a.e.now }
