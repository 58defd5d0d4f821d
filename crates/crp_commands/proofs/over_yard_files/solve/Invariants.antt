use Rattle.std.proofs.Common.{option_map}
use Rattle.crp_commands.proofs.over_yard_files.solve.Given as goal

-- the files that are written have the names that were asked for
abbrev pub ghosts-solve_to-C-Named : goal.ghosts-solve_to-C-Named
ghosts-solve_to-C-Named g a = record { name = option_map (λ name. name.now) a.asked.now.names.now.cert }

abbrev pub ghosts-solve_to-A-Named : goal.ghosts-solve_to-A-Named
ghosts-solve_to-A-Named g a = record { name = option_map (λ name. name.now) a.asked.now.names.now.after }

abbrev pub ghosts-solve_to-2-C-Named : goal.ghosts-solve_to-2-C-Named
ghosts-solve_to-2-C-Named g a = record { name = option_map (λ name. name.now) a.asked.now.names.now.cert }

abbrev pub ghosts-solve_to-2-A-Named : goal.ghosts-solve_to-2-A-Named
ghosts-solve_to-2-A-Named g a = record { name = option_map (λ name. name.now) a.asked.now.names.now.after }
