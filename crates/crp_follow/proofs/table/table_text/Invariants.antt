-- The records of the moves so far are written.
use Rattle.std.proofs.Common.{◌≡◌, ◌∷◌, map, take}
use Rattle.crp_yard.specs.Text.{text_of_records}
use Rattle.crp_follow.specs.Table.{header, fields_of}
use Rattle.crp_follow.specs.Views.{columns_as}
use Rattle.crp_follow.proofs.table.table_text.Given as goal

abbrev pub invariant-loop-columns : goal.invariant-loop-columns
invariant-loop-columns l = l.table ≡ text_of_records (header ∷ map fields_of (map columns_as (take l.columns-index l.columns-items)))
