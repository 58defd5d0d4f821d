use Rattle.std.proofs.Common.{◌≡◌, sym, ◌∙◌, subst}
use Rattle.std.proofs.lemmas.Bool.{both_ways}
use Rattle.crp_plan.specs.Bay.{Position}
use Rattle.crp_chains.specs.Chains.{AreLinked, AreInTime}
use Rattle.crp_thinned.proofs.Chained.{clear_thin}
use Rattle.crp_chains.proofs.Blockers.{same_chain}
use Rattle.crp_thinning.proofs.linking.chain_of.Goals as goal
use Rattle.crp_thinning.proofs.linking.chain_of.Goals.{else-are_linked-via-then-are_linked+else-are_in_time, else-are_linked-via-else-are_linked}

pub returns-else-are_linked-clause-none : goal.returns-else-are_linked-clause-none
returns-else-are_linked-clause-none c chain e k =
    let s : Position = c.args.track.now.place in
    let same : chain ≡ c.in-Some.chain.items = same_chain s chain c.in-Some.chain.items (clear_thin s c.requires.thin) k.blockers c.in-Some.ensures.block (e ∙ sym c.in-Some.ensures.ranks) in
    elim c.else-are_linked.branch [
      | else-are_linked-via-then-are_linked+else-are_in_time w ↦
          both_ways w.are_in_time.result w.if-are_in_time.false (w.are_in_time.ensures.1 (subst AreInTime (same ∙ sym w.as_slice-then-are_linked.ensures.value) k.in_time))
      | else-are_linked-via-else-are_linked w ↦
          both_ways c.are_linked.result w.if-are_linked.false (c.are_linked.ensures.1 (subst (AreLinked s) (same ∙ sym c.as_slice.ensures.value) k.linked))
    ]
