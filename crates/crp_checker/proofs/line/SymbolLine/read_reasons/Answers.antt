use Rattle.std.proofs.Common.{true, None, Some, refl, ◌∙◌}
use Rattle.crp_checker.specs.declared.line.SymbolLine.{SymbolLine}
use Rattle.crp_checker.specs.Kept.{need_by}
use Rattle.crp_checker.proofs.Lines.{reasons_go_on, reasons_wrong, reasons_end}
use Rattle.crp_checker.proofs.line.SymbolLine.read_reasons.Goals as goal

pub returns-in-On : goal.returns-in-On
returns-in-On c top before is =
    let line : SymbolLine = c.args.self.now in
    reasons_go_on (need_by c.args.need.now) c.args.need.now.version top before line (record line { reasons = Some c.feed.new.self }) c.in-Some.reader c.feed.new.self c.args.byte c.requires.known c.in-Some.is is
    c.requires.known refl refl refl c.feed.ensures.reading c.in-On.ensures.means

pub returns-in-Wrong : goal.returns-in-Wrong
returns-in-Wrong c top before is =
    let line : SymbolLine = c.args.self.now in
    reasons_wrong (need_by c.args.need.now) c.args.need.now.version top before line (record line { unknown = true; reasons = None }) c.in-Some.reader c.args.byte c.requires.known c.in-Some.is is refl c.in-Wrong.ensures.means

pub returns-in_ok-take_reasons-in-Ended : goal.returns-in_ok-take_reasons-in-Ended
returns-in_ok-take_reasons-in-Ended c top before is =
    let line : SymbolLine = c.args.self.now in
    let old : SymbolLine = record line { reasons = None } in
    let same = c.in_ok-take_reasons-in-Ended.ensures.same in
    reasons_end (need_by c.args.need.now) c.args.need.now.version top before line old c.take_reasons.new.self c.in-Some.reader c.args.byte c.in-Ended.number c.in-Ended.shown c.requires.known c.in-Some.is is
    refl refl (same.0 ∙ c.requires.known) same.1 c.in-Ended.ensures.means c.in_ok-take_reasons-in-Ended.ensures.took
