-- What the types of the program stand for.
use Rattle.std.specs.Prelude.{map}
use Rattle.crp_said.specs.declared.said.SaidBay.{SaidBay}
use Rattle.crp_said.specs.declared.report.Report.{Report}
use Rattle.crp_said.specs.Said.{BaySaid}
use Rattle.crp_said.specs.Spelled.{ReportSaid}

abbrev pub bay_as : SaidBay → BaySaid
bay_as b = record { bay = b.bay; said = b.said; lines = b.lines.items }

abbrev pub report_as : Report → ReportSaid
report_as r = record { numbers = r.numbers; bays = map bay_as r.bays.items; count = r.count; settled = r.settled }
