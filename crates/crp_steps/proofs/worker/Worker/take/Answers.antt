use Rattle.std.proofs.Common.{◌≡◌, ◌==◌, false, deque_len, length, sym, ap, ◌∙◌, subst, arith}
use Rattle.crp_steps.specs.Worlds.{Worker}
use Rattle.crp_steps.specs.Events.{Takes}
use Rattle.crp_steps.proofs.Acts.{can_take}
use Rattle.crp_steps.proofs.worker.Worker.take.Goals as goal

pub returns-in_default-clause-stopped : goal.returns-in_default-clause-stopped
returns-in_default-clause-stopped c =
    let i = c.self.inside in
    let v : Worker = record { deque = i.deque.items; hand = i.hand.items; has_task = i.has_task; view = i.view } in
    let size : length v.deque ≡ deque_len i.deque = let ok = i.deque.ok.0 in omega arith in
    let some : (length v.deque == 0) ≡ false = ap (λ n. n == 0) size ∙ sym c.is_empty.ensures ∙ c.if-is_empty.false in
    subst (λ (x : Worker). (next : Worker) × Takes x next) c.self.view_is (can_take v c.if-self.false some)
