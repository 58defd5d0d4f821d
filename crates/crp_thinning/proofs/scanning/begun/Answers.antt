use Rattle.std.proofs.Common.{◌≡◌, ℕ, suc, ◌+◌, ◌-◌, ◌<◌, List, [], drop, length, get_or, set, Some, ap, sym, ◌∙◌, ⊎_elim, arith, length-set}
use Rattle.std.proofs.lemmas.Bool.{cases_eq, cases_lt}
use Rattle.std.proofs.lemmas.List.{drop_all, get_or-set_same, get_or-set_other}
use Rattle.std.proofs.lemmas.Option.{slice_get-get_or}
use Rattle.crp_bay.proofs.Tops.{any_default}
use Rattle.crp_bounds.specs.Leasts.{least_ordered}
use Rattle.crp_bounds.specs.Offers.{offers, greatest}
use Rattle.crp_bounds.proofs.Tallying.{length_offers}
use Rattle.crp_bounds.proofs.Scanned.{beyond, offers_at, greatest_drop, one_more}
use Rattle.crp_thinning.proofs.scanning.begun.Goals as goal

pub loop-row-preserved : goal.loop-row-preserved
loop-row-preserved c =
    let inv = c.loop-row.invariant in
    let row = c.loop-row.row in
    let all : List ℕ = offers c.args.ordered c.args.heights.now c.args.stacks.now in
    let lt : row - 1 < length c.args.heights.now = omega (arith, c.loop-row-test.true, c.loop-row.auto.row) in
    let lt' : row - 1 < length c.args.stacks.now = omega (arith, c.requires.same) in
    let here : get_or c.args.stacks.now (row - 1) [] ≡ c.ranks-stack.result.now = any_default c.args.stacks.now (row - 1) [] c.index-stacks-index.result lt' ∙ sym c.index-stacks-index.is ∙ sym c.ranks-stack.ensures.value in
    let is : get_or all (row - 1) 0 ≡ c.offer_of.result =
    offers_at c.args.ordered c.args.heights.now c.args.stacks.now (row - 1) (get_or c.args.heights.now (row - 1) 0) c.ranks-stack.result.now (slice_get-get_or c.args.heights.now (row - 1) 0 lt) (slice_get-get_or c.args.stacks.now (row - 1) [] lt' ∙ ap Some here)
    ∙ sym c.offer_of.ensures in
    let there : row - 1 < length all = omega (arith, length_offers c.args.ordered c.args.heights.now c.args.stacks.now c.requires.same) in
    let next : row + 1 - 1 ≡ suc (row - 1) = omega (arith, c.loop-row.auto.row) in
    let more = one_more c.loop-row.left (λ r. length (get_or c.args.stacks.now r [])) row (length c.ranks-stack.result.now) (omega (arith, c.loop-row.auto.row)) (omega (arith, inv.long, c.requires.few)) inv.done inv.rest (ap length here) in
    let least = c.least_of-least.ensures ∙ sym (ap (least_ordered c.args.ordered) here) in
    record {
      leasts = λ r lt. ⊎_elim
          (λ same. ap (λ x. get_or (set c.loop-row.leasts (row - 1) c.least_of-least.result) x 0) same ∙ get_or-set_same c.loop-row.leasts (row - 1) c.least_of-least.result 0 (omega (arith, inv.leasts_long, c.requires.few)) ∙ least
          ∙ ap (λ x. least_ordered c.args.ordered (get_or c.args.stacks.now x [])) (sym same))
          (λ other. get_or-set_other c.loop-row.leasts (row - 1) r c.least_of-least.result 0 other ∙ inv.leasts r (omega (arith, c.loop-row.auto.row)))
          (cases_eq r (row - 1));
      leasts_long = length-set c.loop-row.leasts (row - 1) c.least_of-least.result ∙ inv.leasts_long;
      done = more.0;
      rest = more.1;
      long = length-set c.loop-row.left (row - 1) (length c.ranks-stack.result.now) ∙ inv.long;
      most = omega (arith, inv.most, greatest_drop all (row - 1) there, ap (λ n. greatest (drop n all)) next, is, c.max-most.ensures);
    }

pub returns-clause-left : goal.returns-clause-left
returns-clause-left c r = ⊎_elim
    (λ lt. c.loop-row.invariant.done r lt)
    (λ ge. c.loop-row.invariant.rest r ge ∙ sym (ap length (beyond c.args.stacks.now r [] (omega (arith, c.requires.same, c.loop-row-test.false, c.loop-row.auto.row)))))
    (cases_lt r (c.loop-row.row - 1))

pub returns-clause-most : goal.returns-clause-most
returns-clause-most c =
    let all : List ℕ = offers c.args.ordered c.args.heights.now c.args.stacks.now in
    let none : drop (c.loop-row.row - 1) all ≡ [] = drop_all (c.loop-row.row - 1) all (omega (arith, length_offers c.args.ordered c.args.heights.now c.args.stacks.now c.requires.same, c.loop-row-test.false, c.loop-row.auto.row)) in
    omega (arith, c.loop-row.invariant.most, ap greatest none)

pub returns-clause-leasts : goal.returns-clause-leasts
returns-clause-leasts c r lt = c.loop-row.invariant.leasts r (omega (arith, c.requires.same, c.loop-row-test.false, c.loop-row.auto.row))
