use Rattle.std.proofs.Common.{ℕ, ◌≤◌, arith}
use Rattle.std.proofs.lemmas.List.Elements.{All-weaker}
use Rattle.crp_callers.proofs.ways.reached_is_bounded.Goals as goal

pub returns-clause-settled : goal.returns-clause-settled
returns-clause-settled c = λ s t row reached legal. c.reached_positions.ensures.settled s reached row t legal

pub returns-clause-bound : goal.returns-clause-bound
returns-clause-bound c = λ s moves reached way. c.look_ahead_bounds.ensures s moves (c.reached_positions.ensures.sound s reached) way

pub returns-clause-stacks : goal.returns-clause-stacks
returns-clause-stacks c = λ s reached. omega (arith, (c.reached_positions.ensures.rows s reached).1, c.reached_positions.ensures.same_rows s reached)

pub returns-clause-tiers : goal.returns-clause-tiers
returns-clause-tiers c = λ s reached. All-weaker (λ (height : ℕ). (1 ≤ height) × (height ≤ 8)) (λ (height : ℕ). height ≤ 8) (λ height fits. fits.1) s.heights (c.reached_positions.ensures.heights s reached)

pub returns-clause-next : goal.returns-clause-next
returns-clause-next c = λ s reached. omega (arith, (c.reached_positions.ensures.next s reached).1, c.reached_positions.ensures.ordered s reached)
