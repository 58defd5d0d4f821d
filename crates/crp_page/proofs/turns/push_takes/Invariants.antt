-- The moves so far are added.
use Rattle.std.proofs.Common.{◌≡◌, ◌++◌, map, take}
use Rattle.std.specs.Prelude.{flat_map}
use Rattle.crp_loading.specs.Views.{recorded}
use Rattle.crp_page.specs.Turns.{taken_words}
use Rattle.crp_page.proofs.turns.push_takes.Given as goal

abbrev pub invariant-loop-columns : goal.invariant-loop-columns
invariant-loop-columns l = l.text.items ≡ l.initial.text.items ++ flat_map taken_words (map recorded (take l.columns-index l.moves))
