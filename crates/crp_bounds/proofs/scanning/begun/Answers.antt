use Rattle.std.proofs.Common.{◌≡◌, ℕ, suc, ◌+◌, ◌-◌, ◌<◌, List, [], drop, length, get_or, ap, sym, ◌∙◌, ⊎_elim, arith, length-set}
use Rattle.std.proofs.lemmas.Bool.{cases_lt, eqb-true}
use Rattle.std.proofs.lemmas.List.{drop_all}
use Rattle.std.proofs.lemmas.Option.{get_or_from_slice_get}
use Rattle.crp_bay.proofs.Reaching.{reached_same_rows}
use Rattle.crp_bounds.specs.Offers.{offer, offers, greatest}
use Rattle.crp_bounds.proofs.Tallying.{length_offers}
use Rattle.crp_bounds.proofs.Scanned.{beyond, offers_at, greatest_drop, one_more, open_row}
use Rattle.crp_bounds.proofs.scanning.begun.Goals as goal

pub loop-row-preserved : goal.loop-row-preserved
loop-row-preserved c =
    let inv = c.loop-row.invariant in
    let s = c.args.position.now.place in
    let row = c.loop-row.row in
    let all : List ℕ = offers s.ordered s.heights s.stacks in
    let is : get_or all (row - 1) 0 ≡ c.offer_of.result =
    offers_at s.ordered s.heights s.stacks (row - 1) c.height-height.result c.stack-stack.result.now c.height-height.ensures.value c.stack-stack.ensures.value
    ∙ ap (λ o. offer o c.height-height.result c.stack-stack.result.now) (sym c.ordered.ensures.value) ∙ sym c.offer_of.ensures in
    let there : row - 1 < length all = omega (arith, length_offers s.ordered s.heights s.stacks (sym (reached_same_rows s c.rows-row-end.ensures.reached)), c.rows-row-end.ensures.value, c.loop-row-test.true) in
    let next : row + 1 - 1 ≡ suc (row - 1) = omega arith in
    let more = one_more c.loop-row.left (λ r. length (get_or s.stacks r [])) row (length c.stack-stack.result.now) (omega arith) (omega (arith, inv.long)) inv.done inv.rest (ap length (get_or_from_slice_get s.stacks (row - 1) c.stack-stack.result.now [] c.stack-stack.ensures.value)) in
    record {
      done = more.0;
      rest = more.1;
      long = length-set c.loop-row.left (row - 1) (length c.stack-stack.result.now) ∙ inv.long;
      most = omega (arith, inv.most, greatest_drop all (row - 1) there, ap (λ n. greatest (drop n all)) next, is, c.max-most.ensures);
    }

pub returns-then-is_empty-clause-open : goal.returns-then-is_empty-clause-open
returns-then-is_empty-clause-open c =
    let s = c.args.position.now.place in
    open_row s (c.loop-row.row - 1) c.height-height.result c.stack-stack.result.now c.stack-stack.ensures.reached c.height-height.ensures.value c.stack-stack.ensures.value (eqb-true (length c.stack-stack.result.now) 0 (sym c.is_empty.ensures ∙ c.if-is_empty.true))

pub returns-clause-left : goal.returns-clause-left
returns-clause-left c r = ⊎_elim
    (λ lt. c.loop-row.invariant.done r lt)
    (λ ge. c.loop-row.invariant.rest r ge ∙ sym (ap length (beyond c.args.position.now.place.stacks r [] (omega (arith, reached_same_rows c.args.position.now.place c.rows-row-end.ensures.reached, c.rows-row-end.ensures.value)))))
    (cases_lt r (c.loop-row.row - 1))

pub returns-clause-most : goal.returns-clause-most
returns-clause-most c =
    let s = c.args.position.now.place in
    let all : List ℕ = offers s.ordered s.heights s.stacks in
    let none : drop (c.loop-row.row - 1) all ≡ [] = drop_all (c.loop-row.row - 1) all (omega (arith, length_offers s.ordered s.heights s.stacks (sym (reached_same_rows s c.rows-row-end.ensures.reached)), c.rows-row-end.ensures.value, c.loop-row-test.false)) in
    omega (arith, c.loop-row.invariant.most, ap greatest none)
