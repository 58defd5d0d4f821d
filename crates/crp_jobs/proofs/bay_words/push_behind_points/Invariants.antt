use Rattle.std.proofs.Common.{◌≡◌, ◌++◌, take}
use Rattle.crp_sizes.specs.Heights.{behind_points}
use Rattle.crp_jobs.proofs.bay_words.push_behind_points.Given as goal

abbrev pub invariant-loop-height : goal.invariant-loop-height
invariant-loop-height l = l.words.items ≡ l.initial.words.items ++ behind_points (take l.height-index l.heights)
