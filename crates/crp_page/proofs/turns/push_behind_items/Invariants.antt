-- The moves so far are added.
use Rattle.std.proofs.Common.{◌≡◌, ◌++◌, map, take}
use Rattle.std.specs.Prelude.{flat_map}
use Rattle.crp_loading.specs.Views.{recorded}
use Rattle.crp_page.specs.Turns.{behind_item}
use Rattle.crp_page.proofs.turns.push_behind_items.Given as goal

abbrev pub invariant-loop-columns : goal.invariant-loop-columns
invariant-loop-columns l = l.text.items ≡ l.initial.text.items ++ flat_map behind_item (map recorded (take l.columns-index l.moves))
