-- The columns of the moves so far, and those of the moves that are left.
use Rattle.std.proofs.Common.{◌≡◌, suc, ◌++◌, map, drop}
use Rattle.crp_follow.specs.Stated.{moves_of}
use Rattle.crp_follow.specs.Table.{columns_from}
use Rattle.crp_follow.specs.Views.{columns_as, taken_as}
use Rattle.crp_follow.proofs.columns.add_bay.Given as goal

abbrev pub invariant-loop-i : goal.invariant-loop-i
invariant-loop-i l =
    map columns_as l.columns.items ++ columns_from l.bay.stated.bay l.count (map taken_as l.takes.items) (suc l.i) (moves_of (drop l.i l.bay.stated.moves.items))
    ≡ map columns_as l.initial.columns.items ++ columns_from l.bay.stated.bay l.count (map taken_as l.takes.items) 1 (moves_of l.bay.stated.moves.items)
