use Rattle.std.proofs.Common.{◌≢◌, ◌∙◌, ◌<◌, length, slice_set, refl, sym, subst, arith}
use Rattle.crp_steps.specs.Worlds.{World}
use Rattle.crp_steps.specs.Events.{Steals}
use Rattle.crp_steps.proofs.Acts.{is_worker, can_steal, stolen}
use Rattle.crp_steps.proofs.state.State.steal.Goals as goal

pub returns-clause-done : goal.returns-clause-done
returns-clause-done c =
    let i = c.self.inside in
    let w : World = record { rules = record { problem = i.problem; budget = i.budget; split = i.split; start = i.start }; limit = i.limit; spent = i.spent; workers = i.workers.items; leaves = i.leaves.items; offered = i.offered.items } in
    let there : c.args.k < length w.workers = subst (λ (x : World). c.args.k < length x.workers) (sym c.self.view_is) c.requires.there in
    let victim_there : c.args.victim < length w.workers = let size = i.workers.ok.0 in let small = c.len.ensures in let some = c.if-victim-len.false in omega arith in
    let another : c.args.victim ≢ c.args.k = c.if-victim-k.false in
    subst (λ x. Steals c.args.k c.args.victim x (record w { workers = slice_set (slice_set w.workers c.args.k c.receive.new.self) c.args.victim c.lose_first.new.self })) c.self.view_is
    (stolen w c.args.k c.args.victim c.index.result.now c.index_mut.result.now c.index-2.result.now c.index_mut-2.result.now c.receive.new.self c.lose_first.new.self c.in-Some.name
    there victim_there another c.index.ensures c.index_mut.ensures.value c.index-2.ensures c.index_mut-2.ensures.value
    (sym c.has_task.ensures ∙ c.if-has_task.false) c.in-Some.ensures.name c.in-Ok.ensures.done c.lose_first.ensures)

pub returns-in_default-receive-clause-stopped : goal.returns-in_default-receive-clause-stopped
returns-in_default-receive-clause-stopped c =
    let i = c.self.inside in
    let w : World = record { rules = record { problem = i.problem; budget = i.budget; split = i.split; start = i.start }; limit = i.limit; spent = i.spent; workers = i.workers.items; leaves = i.leaves.items; offered = i.offered.items } in
    let there : c.args.k < length w.workers = subst (λ (x : World). c.args.k < length x.workers) (sym c.self.view_is) c.requires.there in
    let victim_there : c.args.victim < length w.workers = let size = i.workers.ok.0 in let small = c.len.ensures in let some = c.if-victim-len.false in omega arith in
    let another : c.args.victim ≢ c.args.k = c.if-victim-k.false in
    subst (λ x. (next : World) × Steals c.args.k c.args.victim x next) c.self.view_is
    (can_steal w c.args.k c.args.victim c.index.result.now c.index-2.result.now c.in-Some.name
    (is_worker w w.workers c.args.k c.index.result.now refl there c.index.ensures) (is_worker w w.workers c.args.victim c.index-2.result.now refl victim_there c.index-2.ensures)
    another (sym c.has_task.ensures ∙ c.if-has_task.false) c.in-Some.ensures.name)
