use Rattle.std.proofs.Common.{◌≡◌, ◌∙◌, List, Some, ap, sym, subst}
use Rattle.std.specs.Prelude.{slice_get}
use Rattle.std.specs.List.{IsDistinct}
use Rattle.crp_plan.specs.BayNames.{same_bay}
use Rattle.crp_sizes.specs.Sizes.{BaySize, YardSizes}
use Rattle.crp_sizes.proofs.SizeSteps.{names, fresh_at, next_taken}
use Rattle.crp_sizes.proofs.sizes.Sizes.copy.Goals as goal

pub push-requires-clause-fresh : goal.push-requires-clause-fresh
push-requires-clause-fresh c =
    let sizes = c.args.self.now.listed in
    let entries : c.self.inside.listed.entries ≡ sizes = ap (λ (s : YardSizes). s.listed) c.self.view_is in
    let size : BaySize = (c.in-Some.bay.now, c.in-Some.heights.now) in
    let at : slice_get sizes c.loop-i.i ≡ Some size = subst (λ (l : List BaySize). slice_get l c.loop-i.i ≡ Some size) entries (sym c.in-Some.ensures.entry) in
    rw (c.copy.ensures, c.loop-i.invariant.1) (fresh_at sizes c.loop-i.i size (subst (λ (l : List BaySize). IsDistinct same_bay (names l)) entries c.self.invariant.once) at)

pub loop-i-preserved : goal.loop-i-preserved
loop-i-preserved c =
    let sizes = c.args.self.now.listed in
    let entries : c.self.inside.listed.entries ≡ sizes = ap (λ (s : YardSizes). s.listed) c.self.view_is in
    let size : BaySize = (c.in-Some.bay.now, c.in-Some.heights.now) in
    let at : slice_get sizes c.loop-i.i ≡ Some size = subst (λ (l : List BaySize). slice_get l c.loop-i.i ≡ Some size) entries (sym c.in-Some.ensures.entry) in (
      c.in_ok-push.ensures.common ∙ c.loop-i.invariant.0,
      c.in_ok-push.ensures.added ∙ rw (c.copy.ensures, c.of.ensures ∙ c.list.ensures.value, c.loop-i.invariant.1) (sym (next_taken sizes c.loop-i.i size at)),
    )
