use Rattle.std.proofs.Common.{arith, ◌≡◌, ℕ, ◌-◌, ◌+◌, List, [], drop, ap}
use Rattle.std.proofs.lemmas.List.{drop_all}
use Rattle.crp_bay.proofs.Reaching.{reached_ordered, reached_same_rows}
use Rattle.crp_prices.specs.AllJobs.{turn_among}
use Rattle.crp_prices.proofs.Listing.{among_most, among_step}
use Rattle.crp_prices.proofs.all_jobs.turn_of.Goals as goal

pub overflow_add-turn : goal.overflow_add-turn
overflow_add-turn c = omega (arith, reached_ordered c.args.position.now.place c.ordered-ordered.ensures.reached, c.ordered-ordered.ensures.value)

pub loop-row-init : goal.loop-row-init
loop-row-init c = record {
  some = omega arith;
  few = omega (arith, c.ordered-ordered.ensures.value);
  is = omega (arith, c.ordered-ordered.ensures.value, among_most c.args.position.now.place.ordered c.args.rank c.args.position.now.place.stacks);
}

pub turn_in-requires : goal.turn_in-requires
turn_in-requires c = omega (arith, reached_ordered c.args.position.now.place c.ordered-ordered.ensures.reached, c.ordered-ordered.ensures.value)

pub loop-row-preserved : goal.loop-row-preserved
loop-row-preserved c =
    let ordered : ℕ = c.args.position.now.place.ordered in
    let stacks : List (List ℕ) = c.args.position.now.place.stacks in
    let next : c.loop-row.row + 1 - 1 ≡ c.loop-row.row - 1 + 1 = omega (arith, c.loop-row.invariant.some) in
    let ordered_is : c.ordered-ordered.result ≡ ordered = c.ordered-ordered.ensures.value in
    record {
      some = omega arith;
      few = omega (arith, c.loop-row.invariant.few);
      is = omega (
        arith,
        c.loop-row.invariant.is,
        among_step ordered c.args.rank (c.loop-row.row - 1) stacks c.stack.result.now c.stack.ensures.value,
        ap (λ n. turn_among ordered c.args.rank (drop n stacks)) next,
        c.turn_in.ensures.value,
        ap (λ n. Rattle.crp_prices.specs.AllJobs.turn_in n c.args.rank [] c.stack.result.now) ordered_is,
      );
    }

pub returns : goal.returns
returns c =
    let stacks : List (List ℕ) = c.args.position.now.place.stacks in
    let gone : drop (c.loop-row.row - 1) stacks ≡ [] =
    drop_all (c.loop-row.row - 1) stacks (omega (arith, c.rows-row-end.ensures.value, reached_same_rows c.args.position.now.place c.rows-row-end.ensures.reached)) in
    omega (arith, c.loop-row.invariant.is, c.loop-row.invariant.few, ap (turn_among c.args.position.now.place.ordered c.args.rank) gone)
