use Rattle.std.proofs.Common.{◌<◌, ◌≤◌, length, arith, subst}
use Rattle.crp_steps.specs.Worlds.{Worker}
use Rattle.crp_steps.specs.Events.{Puts}
use Rattle.crp_steps.proofs.Acts.{can_put}
use Rattle.crp_steps.proofs.worker.Worker.put.Goals as goal

pub returns-in_default-clause-stopped : goal.returns-in_default-clause-stopped
returns-in_default-clause-stopped c =
    let i = c.self.inside in
    let v : Worker = record { deque = i.deque.items; hand = i.hand.items; has_task = i.has_task; view = i.view } in
    let lt : c.args.index < length v.hand = let size = c.len.ensures in let ok = i.hand.ok.0 in let low = c.if-index-len.false in omega arith in
    let short : length c.index.result.now ≤ c.args.split = let size = c.length.ensures.value in let from = c.from.ensures in let low = c.if-length-from.false in omega arith in
    subst (λ (x : Worker). (next : Worker) × Puts c.args.split c.args.index x next) c.self.view_is (can_put c.args.split c.args.index v c.index.result.now lt c.index.ensures short)
