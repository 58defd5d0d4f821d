use Rattle.crp_thinning.proofs.seeking.+extend.Given as goal

abbrev pub decreases-extend : goal.decreases-extend
decreases-extend l = l.left
