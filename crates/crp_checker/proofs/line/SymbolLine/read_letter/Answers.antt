use Rattle.std.proofs.Common.{true, refl, sym, ap, ◌∙◌}
use Rattle.std.specs.Prelude.{option_map}
use Rattle.crp_checker.specs.declared.line.SymbolLine.{SymbolLine}
use Rattle.crp_checker.specs.Symbols.{mark_of}
use Rattle.crp_checker.proofs.Lines.{letter_behind, wrong_behind}
use Rattle.crp_checker.proofs.line.SymbolLine.read_letter.Goals as goal

pub returns-in-Some : goal.returns-in-Some
returns-in-Some c needs version top before no_reasons is =
    let line : SymbolLine = c.args.self.now in
    let some = sym c.symbol_of.ensures ∙ ap (option_map mark_of) c.in-Some.is in
    letter_behind needs version top before line (record line { trailing = true }) c.args.byte (mark_of c.in-Some.field-0) c.requires.known c.requires.closed c.requires.stopped some is c.requires.known c.requires.closed refl refl

pub returns-in-None : goal.returns-in-None
returns-in-None c needs version top before no_reasons is =
    let line : SymbolLine = c.args.self.now in
    let none = sym c.symbol_of.ensures ∙ ap (option_map mark_of) c.in-None.is in
    wrong_behind needs version top before line (record line { unknown = true }) c.args.byte c.requires.known c.requires.closed none no_reasons is refl
