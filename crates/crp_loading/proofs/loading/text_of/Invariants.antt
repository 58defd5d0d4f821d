-- The records so far are written.
use Rattle.std.proofs.Common.{◌≡◌, map, take}
use Rattle.crp_loading.specs.Views.{recorded, text_of}
use Rattle.crp_loading.proofs.loading.text_of.Given as goal

abbrev pub invariant-loop-columns : goal.invariant-loop-columns
invariant-loop-columns l = l.table ≡ text_of (map recorded (take l.columns-index l.records))
