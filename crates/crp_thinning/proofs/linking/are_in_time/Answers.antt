use Rattle.std.proofs.Common.{sym, ◌∙◌}
use Rattle.crp_chains.proofs.Blockers.{in_time_reads}
use Rattle.crp_thinning.proofs.linking.are_in_time.Goals as goal

pub returns : goal.returns
returns c =
    let r = in_time_reads c.args.chain.now c.in-Some.first.now c.in-Some.rest.now c.in-Some.ensures.cases.0 in
    (λ h. r.0 (sym c.are_before.ensures ∙ h), λ k. c.are_before.ensures ∙ r.1 k)
