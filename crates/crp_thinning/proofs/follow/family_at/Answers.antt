use Rattle.std.proofs.Common.{◌-◌, ◌∙◌, ap}
use Rattle.crp_thinning.specs.declared.path.Path.{Path}
use Rattle.crp_thinning.specs.Branches.{behind}
use Rattle.crp_thinning.proofs.Opened.{by_family}
use Rattle.crp_thinning.proofs.follow.family_at.Goals as goal

pub returns-clause-takes : goal.returns-clause-takes
returns-clause-takes c text =
    let p : Path = c.args.path.now in
    let e = c.begin_family.ensures in
    by_family p.place.place p.need (behind p) text c.begin_family.result
    (record { seen = e.seen; wanted = e.wanted ∙ c.saturating_sub.ensures ∙ ap (λ b. p.need - b) c.blocking.ensures.value; ranks = e.ranks; number = e.number })
