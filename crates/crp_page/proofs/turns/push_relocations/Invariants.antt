-- The moves so far are added.
use Rattle.std.proofs.Common.{◌≡◌, ◌++◌, map, take}
use Rattle.std.specs.Prelude.{flat_map}
use Rattle.crp_loading.specs.Views.{recorded}
use Rattle.crp_page.specs.Turns.{relocation_item}
use Rattle.crp_page.proofs.turns.push_relocations.Given as goal

abbrev pub invariant-loop-columns : goal.invariant-loop-columns
invariant-loop-columns l = l.text.items ≡ l.initial.text.items ++ flat_map relocation_item (map recorded (take l.columns-index l.moves))
