use Rattle.std.proofs.Common.{List, ℕ, inl, inr, sym, ap, ◌∙◌, subst, arith}
use Rattle.crp_plan.specs.Bay.{Position}
use Rattle.crp_plan.proofs.Lists.{times}
use Rattle.crp_chains.specs.Chains.{IsChain, chain_gain}
use Rattle.crp_thinned.proofs.Chained.{clear_thin}
use Rattle.crp_thinning.proofs.Ending.{named, occurs_one, gain_one, chain_is_named, named_ranks}
use Rattle.crp_thinning.proofs.reading.count_chain.Goals as goal

pub returns-then-not-mark-clause-refused : goal.returns-then-not-mark-clause-refused
returns-then-not-mark-clause-refused c =
    let two = c.if-not-mark.ensures.twice in
    inl (two.0, omega (arith, two.1, occurs_one two.0 c.args.reading.now.ranks.items, ap (times two.0) c.as_slice.ensures.value))

pub returns-in_default-clause-refused : goal.returns-in_default-clause-refused
returns-in_default-clause-refused c =
    let s : Position = c.args.track.now.place in
    let ranks : List ℕ = c.args.reading.now.ranks.items in
    inr (λ k. c.in_default.ensures.none (named s ranks) (named_ranks s ranks ∙ sym c.as_slice-2.ensures.value) k.0)

pub returns-clause-counted : goal.returns-clause-counted
returns-clause-counted c =
    let s : Position = c.args.track.now.place in
    let ranks : List ℕ = c.args.reading.now.ranks.items in
    let g = c.in-Some.ensures.gain in
    let same = chain_is_named s g.0 ranks (clear_thin s c.requires.thin) (g.1 ∙ c.as_slice-2.ensures.value) g.2 in
    record {
      is_chain = (subst (IsChain s) same g.2, tt);
      seen = λ x. omega (arith, c.if-not-mark.ensures.counted x, occurs_one x ranks, ap (times x) c.as_slice.ensures.value);
      once = c.if-not-mark.ensures.few;
      wanted = omega (arith, c.saturating_sub-reading.ensures, g.3, ap (chain_gain s) same, gain_one s ranks);
      no_ranks = c.new-reading.ensures;
      no_number = omega arith;
    }
