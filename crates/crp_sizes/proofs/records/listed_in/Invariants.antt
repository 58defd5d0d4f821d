-- csv's reader stands behind the header and records without a fault, of which these are the sizes, and the common ones are there.
use Rattle.std.proofs.Common.{◌≡◌, ℕ, List, ◌∷◌}
use Rattle.crp_sizes.specs.Records.{header, AreSizes}
use Rattle.crp_sizes.proofs.RowSteps.{HasRead}
use Rattle.crp_sizes.proofs.records.listed_in.Given as goal

abbrev pub invariant-loop-row : goal.invariant-loop-row
invariant-loop-row l = (rest : List (List (List ℕ))) × HasRead l.fn.text (header ∷ rest) l.row-iterator × AreSizes rest l.sizes.listed × (l.sizes.common ≡ l.fn.common)
