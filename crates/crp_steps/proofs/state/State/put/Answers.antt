use Rattle.std.proofs.Common.{ap, subst}
use Rattle.std.proofs.lemmas.Result.{IfErr-weaker}
use Rattle.crp_steps.specs.Worlds.{World}
use Rattle.crp_steps.specs.Events.{Puts}
use Rattle.crp_steps.specs.Own.{IsStopped}
use Rattle.crp_steps.proofs.Acts.{is_worker, steps_stopped}
use Rattle.crp_steps.proofs.state.State.put.Goals as goal

pub returns-clause-stopped : goal.returns-clause-stopped
returns-clause-stopped c =
    let was = is_worker c.args.self.now c.self.inside.workers.items c.args.k c.index_mut.result.now (ap (λ (w : World). w.workers) c.self.view_is) c.requires.there c.index_mut.ensures.value in
    IfErr-weaker c.put.result _ _
    (λ why stopped. steps_stopped (Puts c.args.self.now.rules.split c.args.index) c.args.self.now c.args.k c.index_mut.result.now was why
    (subst (λ n. IsStopped (Puts n c.args.index c.index_mut.result.now) why) (ap (λ (w : World). w.rules.split) c.self.view_is) stopped))
    c.put.ensures.stopped
