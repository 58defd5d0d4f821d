use Rattle.std.proofs.Common.{◌∙◌, sym}
use Rattle.crp_json.proofs.NoEntry.{some_bytes}
use Rattle.crp_json.proofs.chain_lines.read_more.Goals as goal

pub returns-in_default-clause-none : goal.returns-in_default-clause-none
returns-in_default-clause-none c =
    c.loop-rest.invariant.none (c.in_default.ensures.none (some_bytes c.loop-rest.rest.now (sym c.is_empty.ensures ∙ c.loop-rest-test.true)))
