-- The report has bays of the blocks so far.
use Rattle.std.proofs.Common.{◌≡◌, ◌+◌, map, drop}
use Rattle.std.specs.Prelude.{not}
use Rattle.std.specs.List.{position_from}
use Rattle.crp_follow.specs.Unstated.{has_block}
use Rattle.crp_follow.specs.Views.{bay_followed}
use Rattle.crp_follow.proofs.unstated.first_block.Given as goal

abbrev pub invariant-loop-i : goal.invariant-loop-i
invariant-loop-i l = position_from (λ block. not (has_block (map bay_followed l.bays) block)) 1 (map (λ block. block.now) l.blocks)
    ≡ position_from (λ block. not (has_block (map bay_followed l.bays) block)) (1 + l.i) (map (λ block. block.now) (drop l.i l.blocks))
