use Rattle.std.proofs.Common.{◌≡◌, ◌⊎◌, true}
use Rattle.crp_solve.proofs.workers.aim.FewestAim.search_part.Given as goal

abbrev pub ghosts-search_at_desk : goal.ghosts-search_at_desk
ghosts-search_at_desk g a = record { words = a.common.now.of; place = a.place; may = (a.stopped ≡ true) ⊎ g.G.Gate.may_stop a.outside.now.gate.now }
