-- The heights so far stand behind the text.
use Rattle.std.proofs.Common.{◌≡◌, ◌++◌, ◌∷◌, take}
use Rattle.std.specs.Prelude.{flat_map, decimal}
use Rattle.crp_notes.proofs.tiers.push_heights.Given as goal

abbrev pub invariant-loop-height : goal.invariant-loop-height
invariant-loop-height l = l.text.items ≡ l.initial.text.items ++ flat_map (λ other. 46 ∷ decimal other) (take l.height-index l.heights)
