use Rattle.std.proofs.Common.{◌≡◌, All, length}
use Rattle.crp_solve.specs.Groups.{IsRoom}
use Rattle.crp_solve.proofs.workers.wider.lists_of.Given as goal

abbrev pub invariant-loop-number : goal.invariant-loop-number
invariant-loop-number l = record {
  count : length l.lists.items ≡ l._number;
  lists_are : All IsRoom l.lists.items;
}
