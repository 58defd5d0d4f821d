use Rattle.std.proofs.Common.{◌≡◌, refl, sym, ap, ◌∙◌}
use Rattle.std.specs.Ordering.{nat_cmp, is_lt}
use Rattle.std.specs.Cmp.Lexicographic.{slice_cmp}
use Rattle.crp_tree.proofs.Ordered.{before_test}
use Rattle.crp_gather.proofs.settling.comes_after.Goals as goal

pub returns : goal.returns
returns c =
    let is : c.is_lt.result ≡ is_lt (slice_cmp nat_cmp c.args.plan.now.path c.args.path.now.items) = c.is_lt.ensures ∙ ap is_lt (c.cmp.ensures ∙ ap (λ l. slice_cmp nat_cmp l c.as_slice.result.now) c.rows.ensures.value ∙ ap (slice_cmp nat_cmp c.args.plan.now.path) c.as_slice.ensures.value) in
    let test = before_test c.args.plan.now.path c.args.path.now.items (slice_cmp nat_cmp c.args.plan.now.path c.args.path.now.items) refl in
    (λ yes. test.0 (sym is ∙ yes), λ before. is ∙ test.1 before)
