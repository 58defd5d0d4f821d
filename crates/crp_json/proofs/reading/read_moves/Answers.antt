use Rattle.std.proofs.Common.{sym}
use Rattle.crp_json.proofs.NoEntry.{some_bytes, none_behind, no_move, no_line}
use Rattle.crp_json.proofs.reading.read_moves.Goals as goal

pub returns-in_default-2-clause-none : goal.returns-in_default-2-clause-none
returns-in_default-2-clause-none c =
    let rest = c.loop-line.rest.now in
    let cut = c.in-Some.ensures.found in
    none_behind c.loop-line.moves.items c.args.text.now rest c.loop-line.invariant.stated c.loop-line.invariant.text
    (no_move rest c.in-Some.line.now c.in-Some.behind.now cut.0 cut.1 (rw c.in_default-2.is at c.in_ok-step.ensures))

pub returns-then-not-is_empty-clause-none : goal.returns-then-not-is_empty-clause-none
returns-then-not-is_empty-clause-none c =
    let rest = c.loop-line.rest.now in
    none_behind c.loop-line.moves.items c.args.text.now rest c.loop-line.invariant.stated c.loop-line.invariant.text
    (no_line rest c.in_default.ensures.none (some_bytes rest (sym c.if-not-is_empty.ensures)))
