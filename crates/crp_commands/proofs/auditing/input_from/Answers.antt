use Rattle.std.proofs.Common.{subst, sym}
use Rattle.std.specs.List.{AllByRecursion}
use Rattle.crp_yard.specs.Inventory.{Inventory}
use Rattle.crp_yard.specs.Naming.{IsNamedBay}
use Rattle.crp_yard.proofs.NamedBays.{yard_named}
use Rattle.crp_commands.proofs.auditing.input_from.Goals as goal

pub returns-clause-named : goal.returns-clause-named
returns-clause-named g c =
    let (list, given, listed) = c.in_ok-listed.ensures.accepted in
    subst (λ (y : Inventory). AllByRecursion IsNamedBay y.bays) (sym c.in_ok-input.ensures.same.0) (yard_named _ list c.in_ok-listed.listed listed)
