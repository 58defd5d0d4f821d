use Rattle.std.proofs.Common.{◌∷◌, length, true, sym, ap, ◌∙◌, arith, lit<}
use Rattle.crp_plan.specs.Bay.{Position}
use Rattle.crp_bay.specs.Back.{PlaceAndTrail}
use Rattle.crp_thinned.specs.Thinned.{child_at}
use Rattle.crp_thinning.specs.declared.path.Path.{Path}
use Rattle.crp_thinning.specs.Branches.{task, behind}
use Rattle.crp_thinning.proofs.Pathway.{room, open_more, tasks_more}
use Rattle.crp_thinning.proofs.path.branch_free.Goals as goal

pub push-requires : goal.push-requires
push-requires c =
    (lit< tt, room c.args.path.now.frames.items c.args.path.now.place.trail c.requires.open (omega (arith, c.put.ensures.depth, ap (λ (v : PlaceAndTrail). length v.trail) c.put.ensures.value)))

pub returns-clause-tasks : goal.returns-clause-tasks
returns-clause-tasks c =
    let p : Path = c.args.path.now in
    let s : Position = p.place.place in
    sym (
    ap (λ l. task c.put.new.self.place c.saturating_sub-path.result ∷ l)
    (tasks_more p.frames.items c.push.new.self.items (record { need = p.need; rows = 0; last = true }) s p.place.trail c.put.new.self.trail c.push.ensures.items (ap (λ (v : PlaceAndTrail). v.trail) c.put.ensures.value))
    ∙ ap (λ v. task v c.saturating_sub-path.result ∷ behind p) (ap (λ (v : PlaceAndTrail). v.place) c.put.ensures.value)
    ∙ ap (λ n. task (child_at s c.args.row) n ∷ behind p) c.saturating_sub-path.ensures
    )

pub returns-clause-open : goal.returns-clause-open
returns-clause-open c =
    let p : Path = c.args.path.now in
    open_more p.frames.items c.push.new.self.items (record { need = p.need; rows = 0; last = true }) p.place.place p.place.trail c.put.new.self.trail c.push.ensures.items (ap (λ (v : PlaceAndTrail). v.trail) c.put.ensures.value) (λ e. cc) c.requires.open
