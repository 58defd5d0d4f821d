use Rattle.std.proofs.Common.{length}
use Rattle.crp_solve.proofs.alone.solve_alone.Given as goal

abbrev pub ghosts-first_alone : goal.ghosts-first_alone
ghosts-first_alone a = record { first = length a.known.now.path }
