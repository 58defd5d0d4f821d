use Rattle.std.proofs.Common.{sym}
use Rattle.crp_json.proofs.BoundLines.{no_chain_text, more_behind, other_chains}
use Rattle.crp_json.proofs.NoEntry.{some_bytes}
use Rattle.crp_json.proofs.bound_lines.chain_line.Goals as goal

pub returns-in_default-clause-none : goal.returns-in_default-clause-none
returns-in_default-clause-none c = no_chain_text c.args.text.now (some_bytes c.args.text.now (sym c.if-is_empty.ensures)) c.in_default.ensures.none

pub returns-then-not-is_empty-clause-none : goal.returns-then-not-is_empty-clause-none
returns-then-not-is_empty-clause-none c =
    let cut = c.in-Some.ensures.found in
    more_behind c.args.text.now c.in-Some.line.now c.in-Some.rest.now (some_bytes c.args.text.now (sym c.if-is_empty.ensures)) cut.0 cut.1
    (some_bytes c.in-Some.rest.now (sym c.if-not-is_empty.ensures))

pub returns-in_default-2-clause-none : goal.returns-in_default-2-clause-none
returns-in_default-2-clause-none c =
    let cut = c.in-Some.ensures.found in
    other_chains c.args.text.now c.in-Some.line.now c.in-Some.rest.now (some_bytes c.args.text.now (sym c.if-is_empty.ensures)) cut.0 cut.1
    (rw c.in_default-2.is at c.in_ok-chains.ensures.none)
