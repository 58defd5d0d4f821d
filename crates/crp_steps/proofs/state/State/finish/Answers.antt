use Rattle.std.proofs.Common.{ap}
use Rattle.std.proofs.lemmas.Result.{IfErr-weaker}
use Rattle.crp_steps.specs.Worlds.{World}
use Rattle.crp_steps.specs.Events.{Finishes}
use Rattle.crp_steps.proofs.Acts.{is_worker, steps_stopped}
use Rattle.crp_steps.proofs.state.State.finish.Goals as goal

pub returns-clause-stopped : goal.returns-clause-stopped
returns-clause-stopped c =
    let was = is_worker c.args.self.now c.self.inside.workers.items c.args.k c.index_mut.result.now (ap (λ (w : World). w.workers) c.self.view_is) c.requires.there c.index_mut.ensures.value in
    IfErr-weaker c.finish.result _ _ (steps_stopped Finishes c.args.self.now c.args.k c.index_mut.result.now was) c.finish.ensures.stopped
