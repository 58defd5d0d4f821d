use Rattle.std.proofs.Common.{option_map}
use Rattle.crp_jobs.specs.Names.{after_name}
use Rattle.crp_commands.proofs.over_follow_files.follow_report.Given as goal

-- the files that are written have the names that were asked for
abbrev pub ghosts-follow_to-P-Named : goal.ghosts-follow_to-P-Named
ghosts-follow_to-P-Named g a = record { name = option_map (λ name. name.now) a.asked.now.names.now.page }

abbrev pub ghosts-follow_to-A-Named : goal.ghosts-follow_to-A-Named
ghosts-follow_to-A-Named g a = record { name = after_name a.asked.now.names.now.after }

abbrev pub ghosts-follow_to-2-P-Named : goal.ghosts-follow_to-2-P-Named
ghosts-follow_to-2-P-Named g a = record { name = option_map (λ name. name.now) a.asked.now.names.now.page }

abbrev pub ghosts-follow_to-2-A-Named : goal.ghosts-follow_to-2-A-Named
ghosts-follow_to-2-A-Named g a = record { name = after_name a.asked.now.names.now.after }
