use Rattle.std.proofs.Common.{◌≡◌, true, false, [], map, ap, subst}
use Rattle.std.specs.List.{AllByRecursion}
use Rattle.crp_order.specs.BayProblems.{IsNamedProblem}
use Rattle.crp_said.specs.Views.{bay_as}
use Rattle.crp_audit.proofs.Audited.{none_of}
use Rattle.crp_audit.proofs.Fits.{all_left, one_less, not_next, none_said, at_end, empty_is}
use Rattle.crp_audit.proofs.fitting.fits_each.Goals as goal

pub loop-next-init : goal.loop-next-init
loop-next-init c = record { named = c.requires.named; left = λ h bays e. all_left h bays (map bay_as c.args.said.now) c.args.stated.now e }

pub returns-in_default-split_first : goal.returns-in_default-split_first
returns-in_default-split_first c = λ h bays e.
    let o = c.loop-next.invariant in
    let none : c.loop-next.more.now ≡ [] = none_of c.loop-next.more.now c.in_default-split_first.ensures.cases in
    none_said h bays (map bay_as c.args.said.now) (map bay_as c.loop-next.more.now) c.loop-next.later.now c.in-Some.behind.now c.in-Some.next.now (o.left h bays e) c.in-Some.ensures.cases.0
    (ap (map bay_as) none)

pub returns-then-not-fits : goal.returns-then-not-fits
returns-then-not-fits c = λ h bays e.
    let o = c.loop-next.invariant in
    not_next h bays (map bay_as c.args.said.now) (map bay_as c.loop-next.more.now) (map bay_as c.in-Some-split_first.after.now) c.loop-next.later.now c.in-Some.behind.now c.in-Some.next.now
    (bay_as c.in-Some-split_first.bay.now) (o.left h bays e) c.in-Some.ensures.cases.0 (ap (map bay_as) c.in-Some-split_first.ensures.cases.0)
    (λ bay same fit. let t : c.in_ok-fits.fits ≡ true = (c.in_ok-fits.ensures h bay same).1 fit in let f : c.in_ok-fits.fits ≡ false = c.if-not-fits.true in cc)

pub loop-next-preserved : goal.loop-next-preserved
loop-next-preserved c =
    let o = c.loop-next.invariant in
    let named = subst (AllByRecursion IsNamedProblem) c.in-Some.ensures.cases.0 o.named in
    record {
      named = named.1;
      left = λ h bays e. one_less h bays (map bay_as c.args.said.now) (map bay_as c.loop-next.more.now) (map bay_as c.in-Some-split_first.after.now) c.loop-next.later.now c.in-Some.behind.now
          c.in-Some.next.now (bay_as c.in-Some-split_first.bay.now) (o.left h bays e) c.in-Some.ensures.cases.0 (ap (map bay_as) c.in-Some-split_first.ensures.cases.0)
          (λ bay same. (c.in_ok-fits.ensures h bay same).0 c.if-not-fits.false);
    }

pub returns : goal.returns
returns c = λ h bays e.
    let o = c.loop-next.invariant in
    let end = at_end h bays (map bay_as c.args.said.now) (map bay_as c.loop-next.more.now) c.loop-next.later.now (o.left h bays e) (none_of c.loop-next.later.now c.in_default.ensures.cases) in
    let is = empty_is bay_as c.loop-next.more.now c.is_empty.result c.is_empty.ensures in
    (λ t. end.0 (is.0 t), λ all. is.1 (end.1 all))
