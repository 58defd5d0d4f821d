use Rattle.std.proofs.Common.{sym}
use Rattle.crp_json.proofs.NoEntry.{some_bytes, no_checks_behind, no_check, no_check_line}
use Rattle.crp_json.proofs.reading.read_checks.Goals as goal

pub returns-in-None-clause-none : goal.returns-in-None-clause-none
returns-in-None-clause-none c =
    let rest = c.loop-line.rest.now in
    let cut = c.in-Some.ensures.found in
    no_checks_behind c.loop-line.entries.items c.args.text.now rest c.loop-line.invariant.stated c.loop-line.invariant.text
    (no_check rest c.in-Some.line.now c.in-Some.behind.now cut.0 cut.1 c.in-None.ensures.none.0 c.in-None.ensures.none.1)

pub returns-then-not-is_empty-clause-none : goal.returns-then-not-is_empty-clause-none
returns-then-not-is_empty-clause-none c =
    let rest = c.loop-line.rest.now in
    no_checks_behind c.loop-line.entries.items c.args.text.now rest c.loop-line.invariant.stated c.loop-line.invariant.text
    (no_check_line rest c.in_default.ensures.none (some_bytes rest (sym c.if-not-is_empty.ensures)))
