use Rattle.crp_json.proofs.ChainLines.{chains_found, no_bound, no_chains}
use Rattle.crp_json.proofs.chain_lines.read_chains.Goals as goal

pub returns-in_default-clause-none : goal.returns-in_default-clause-none
returns-in_default-clause-none c = no_bound c.args.line.now c.in_default.ensures

pub returns-in_default-2-clause-none : goal.returns-in_default-2-clause-none
returns-in_default-2-clause-none c =
    no_chains c.args.line.now c.in-Some.first c.in-Some.rest.now c.in-Some.ensures (rw c.in_default-2.is at c.in_ok-ranks.ensures.none)

pub returns-clause-found : goal.returns-clause-found
returns-clause-found c =
    let ranks = rw c.in-Some-2.is at c.in_ok-ranks.ensures.found in
    let t = chains_found c.args.line.now c.in-Some.first c.in-Some.rest.now c.in-Some-2.ranks.items c.in-Some.ensures ranks.1 in
    ((t.0, ranks.0), t.1)
