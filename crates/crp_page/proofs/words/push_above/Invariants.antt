-- The names so far are added.
use Rattle.std.proofs.Common.{◌≡◌, ◌++◌, take}
use Rattle.std.specs.Prelude.{flat_map, codes}
use Rattle.crp_picture.specs.Names.{escaped}
use Rattle.crp_page.proofs.words.push_above.Given as goal

abbrev pub invariant-loop-container : goal.invariant-loop-container
invariant-loop-container l = l.text.items ≡ l.initial.text.items ++ flat_map (λ n. codes ", " ++ escaped n) (take l.container-index l.above)
