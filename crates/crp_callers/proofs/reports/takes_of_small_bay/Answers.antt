use Rattle.std.proofs.Common.{◌++◌, refl}
use Rattle.std.proofs.lemmas.List.Elements.{All-from_recursion}
use Rattle.std.specs.Prelude.{codes}
use Rattle.crp_yard.specs.Naming.{FitsLine}
use Rattle.crp_callers.specs.SmallBay.{small}
use Rattle.crp_callers.specs.SmallReport.{leaving, staying}
use Rattle.crp_callers.proofs.Plain.{printed}
use Rattle.crp_callers.proofs.reports.takes_of_small_bay.Goals as goal

pub returns : goal.returns
returns c = λ moves text plan are. c.takes_are_in_order.ensures small leaving staying moves text
    (All-from_recursion FitsLine (leaving ++ staying) (printed (codes "MSCU1") refl, (printed (codes "MSCU2") refl, (printed (codes "MSCU3") refl, tt)))) refl plan are
