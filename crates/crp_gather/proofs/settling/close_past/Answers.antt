use Rattle.std.proofs.Common.{◌+◌, min, length, refl, ap, ◌∙◌, arith}
use Rattle.crp_bounds.specs.Bounds.{blocking, look_ahead}
use Rattle.crp_gather.proofs.TreesSettled.{closed_b, closed_l}
use Rattle.crp_gather.proofs.settling.close_past.Goals as goal

pub returns-then-low-count-clause-settled : goal.returns-then-low-count-clause-settled
returns-then-low-count-clause-settled c = λ old.
    closed_b c.args.problem.now c.args.plan.now.path c.args.path.now.items c.args.place.now.place _ old c.min.result refl
    (c.min.ensures ∙ ap (λ n. min n c.cap-most.result) c.low_at-low.ensures ∙ ap (λ n. min (length c.args.path.now.items + blocking c.args.place.now.place) n) c.cap-most.ensures.value)
    c.cap-most.ensures.problem c.requires.path (c.comes_after.ensures.0 c.if-not-comes_after.false)
    (let e = c.low_at-low.ensures in let k = c.count.ensures.value in let le = c.if-low-count.true in omega arith)

pub returns-then-high-count-clause-settled : goal.returns-then-high-count-clause-settled
returns-then-high-count-clause-settled c = λ old.
    closed_l c.args.problem.now c.args.plan.now.path c.args.path.now.items c.args.place.now.place _ old c.min-then-high-count.result refl
    (c.min-then-high-count.ensures ∙ ap (λ n. min n c.cap-most.result) c.high_at-high.ensures ∙ ap (λ n. min (length c.args.path.now.items + look_ahead c.args.place.now.place) n) c.cap-most.ensures.value)
    c.cap-most.ensures.problem c.requires.path (c.comes_after.ensures.0 c.if-not-comes_after.false)
    (let e = c.low_at-low.ensures in let k = c.count.ensures.value in let lt = c.if-low-count.false in omega arith)
    (let e = c.high_at-high.ensures in let k = c.count-2.ensures.value in let le = c.if-high-count.true in omega arith)
