-- The bay stands in none of the blocks so far.
use Rattle.std.proofs.Common.{◌≡◌, map, drop}
use Rattle.std.specs.List.{list_any}
use Rattle.std.specs.Str.{bytes_eq}
use Rattle.crp_follow.proofs.part.is_in_one.Given as goal

abbrev pub invariant-loop-block : goal.invariant-loop-block
invariant-loop-block l = list_any (λ block. bytes_eq block l.bay.block) (map (λ block. block.now) l.blocks)
    ≡ list_any (λ block. bytes_eq block l.bay.block) (map (λ block. block.now) (drop l.block-index l.blocks))
