use Rattle.std.proofs.Common.{arith, ◌≡◌, ◌+◌, ◌-◌, drop, length, length-set, refl, sym, ap, ◌∙◌, below_more, get_or-set_other, get_or-set_same, ◌≢◌, ◌<◌}
use Rattle.crp_prices.specs.Columns.{from_on}
use Rattle.crp_prices.proofs.Starts.{all_on, on_and_on}
use Rattle.crp_prices.proofs.table.starts_of.Goals as goal

pub loop-turn-init : goal.loop-turn-init
loop-turn-init c = record {
  each = refl;
  within = omega arith;
  from = sym (all_on c.args.jobs.now);
  all_within = λ v lt. absurd (omega arith);
  begins = λ v lt. absurd (omega arith);
}

pub loop-turn-preserved : goal.loop-turn-preserved
loop-turn-preserved c =
    let next : c.loop-turn.turn + 1 - 1 ≡ c.loop-turn.turn = omega arith in
    let here : drop c.next_from-at.result c.args.jobs.now ≡ from_on c.loop-turn.turn c.args.jobs.now =
    c.next_from-at.ensures.from ∙ ap (from_on c.loop-turn.turn) c.loop-turn.invariant.from ∙ on_and_on (c.loop-turn.turn - 1) c.loop-turn.turn c.args.jobs.now (omega arith) in
    record {
      each = omega (arith, c.loop-turn.invariant.each, length-set c.loop-turn.starts c.loop-turn.turn c.next_from-at.result);
      within = c.next_from-at.ensures.within;
      from = here ∙ ap (λ n. from_on n c.args.jobs.now) (sym next);
      all_within = below_more _ _
          (λ v lt. let ne : v ≢ c.loop-turn.turn = omega arith in rw get_or-set_other (c.loop-turn.invariant.all_within v lt))
          (let lt : c.loop-turn.turn < length c.loop-turn.starts = omega arith in rw (get_or-set_same c.loop-turn.starts c.loop-turn.turn c.next_from-at.result 0 lt) c.next_from-at.ensures.within);
      begins = below_more _ _
          (λ v lt. let ne : v ≢ c.loop-turn.turn = omega arith in rw get_or-set_other (c.loop-turn.invariant.begins v lt))
          (let lt : c.loop-turn.turn < length c.loop-turn.starts = omega arith in rw (get_or-set_same c.loop-turn.starts c.loop-turn.turn c.next_from-at.result 0 lt) here);
    }
