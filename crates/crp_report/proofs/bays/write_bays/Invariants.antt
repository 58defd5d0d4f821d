-- The bays that workers look at are those of the run.
use Rattle.crp_report.proofs.bays.write_bays.Given as goal

abbrev pub ghosts-write_ahead : goal.ghosts-write_ahead
ghosts-write_ahead g a = record { bays = a.bays.now; chosen = a.settings }
