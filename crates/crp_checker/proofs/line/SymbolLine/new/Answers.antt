use Rattle.std.proofs.Common.{false, None, refl}
use Rattle.crp_tree.specs.Spots.{Spot}
use Rattle.crp_checker.specs.declared.line.SymbolLine.{SymbolLine}
use Rattle.crp_checker.proofs.Lines.{line_begins}
use Rattle.crp_checker.proofs.line.SymbolLine.new.Goals as goal

pub returns : goal.returns
returns c = λ needs version.
    let top : Spot = record { path = c.args.name.now; place = c.args.place.place } in
    let line : SymbolLine = record { owing = c.in_ok-owing.owing; found = record { count = 0; wrong = None; given = c.none.result }; trailing = false; unknown = false; reasons = None } in
    let owed = c.in_ok-owing.ensures in
    let given = c.none.ensures in
    line_begins needs version top line refl refl refl cc
