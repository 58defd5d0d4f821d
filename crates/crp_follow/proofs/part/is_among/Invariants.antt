-- None of the names so far is that of the bay.
use Rattle.std.proofs.Common.{◌≡◌, drop}
use Rattle.std.specs.List.{list_any}
use Rattle.crp_plan.specs.BayNames.{same_bay}
use Rattle.crp_follow.proofs.part.is_among.Given as goal

abbrev pub invariant-loop-name : goal.invariant-loop-name
invariant-loop-name l = list_any (λ name. same_bay name l.bay) l.names ≡ list_any (λ name. same_bay name l.bay) (drop l.name-index l.names)
