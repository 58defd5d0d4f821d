use Rattle.std.proofs.Common.{◌≡◌, inl, inr, Some, refl, sym, ap, ◌∙◌, subst}
use Rattle.std.specs.Ordering.{nat_cmp, is_lt}
use Rattle.std.specs.Cmp.Lexicographic.{slice_cmp}
use Rattle.crp_tree.proofs.Ordered.{before_test}
use Rattle.crp_tree.proofs.InOrder.{first_of_two}
use Rattle.crp_solve.specs.Firsts.{IsNoLater}
use Rattle.crp_solve.proofs.FirstKept.{no_later}
use Rattle.crp_solve.proofs.workers.aim.earlier_of.Goals as goal

pub returns-then-is_lt-clause-earlier : goal.returns-then-is_lt-clause-earlier
returns-then-is_lt-clause-earlier c =
    let plan = c.in-Some-Some.plan in let other = c.in-Some-Some.other in
    let is : c.is_lt.result ≡ is_lt (slice_cmp nat_cmp other.path plan.path) = c.is_lt.ensures ∙ ap is_lt (c.cmp.ensures ∙ ap (λ l. slice_cmp nat_cmp l c.rows-in-Some-Some.result.now) c.rows.ensures.value ∙ ap (slice_cmp nat_cmp other.path) c.rows-in-Some-Some.ensures.value) in
    let test = before_test other.path plan.path (slice_cmp nat_cmp other.path plan.path) refl in
    record {
      one = inr (sym c.in-Some-Some.is-1);
      mine = subst (IsNoLater (Some other)) (sym c.in-Some-Some.is-0) (inr (test.0 (sym is ∙ c.if-is_lt.true)));
      others = subst (IsNoLater (Some other)) (sym c.in-Some-Some.is-1) (inl refl);
    }

pub returns-else-is_lt-clause-earlier : goal.returns-else-is_lt-clause-earlier
returns-else-is_lt-clause-earlier c =
    let plan = c.in-Some-Some.plan in let other = c.in-Some-Some.other in
    let is : c.is_lt.result ≡ is_lt (slice_cmp nat_cmp other.path plan.path) = c.is_lt.ensures ∙ ap is_lt (c.cmp.ensures ∙ ap (λ l. slice_cmp nat_cmp l c.rows-in-Some-Some.result.now) c.rows.ensures.value ∙ ap (slice_cmp nat_cmp other.path) c.rows-in-Some-Some.ensures.value) in
    record {
      one = inl (sym c.in-Some-Some.is-0);
      mine = subst (IsNoLater (Some plan)) (sym c.in-Some-Some.is-0) (inl refl);
      others = subst (IsNoLater (Some plan)) (sym c.in-Some-Some.is-1) (no_later plan other (first_of_two plan.path other.path (sym is ∙ c.if-is_lt.false)));
    }
