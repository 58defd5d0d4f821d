use Rattle.std.proofs.Common.{◌≡◌, ℕ, ◌+◌, ◌≤◌, Bool, true, refl, sym, ap, ◌∙◌, arith}
use Rattle.crp_plan.specs.Bay.{Position}
use Rattle.crp_bay.specs.Positions.{place, can_shift}
use Rattle.crp_bay.proofs.Walked.{allows}
use Rattle.crp_bay.specs.Back.{PlaceAndTrail}
use Rattle.crp_bay.proofs.Reading.{legal_by, leads_to}
use Rattle.crp_bay.proofs.Pushing.{found}
use Rattle.crp_bay.proofs.position.Position.push.Goals as goal

pub returns-then-not-is_target-clause-target : goal.returns-then-not-is_target-clause-target
returns-then-not-is_target-clause-target c = found c.args.self.now.place c.args.row _ (sym c.if-not-is_target.true ∙ c.is_target.ensures)

pub returns-then-not-is_target-clause-legal : goal.returns-then-not-is_target-clause-legal
returns-then-not-is_target-clause-legal c = legal_by c.args.self.now.place c.args.row _ (returns-then-not-is_target-clause-target c)

-- the row is a legal one
legal : (s : Position) (row : ℕ) (b : Bool) → b ≡ can_shift s row → b ≡ true → s.next ≤ s.ordered
legal s row b e passes = let a = allows s row (sym e ∙ passes) in a.unfinished

pub row_of-from-requires-clause-waits : goal.row_of-from-requires-clause-waits
row_of-from-requires-clause-waits c = omega (arith, c.next.ensures.value)

pub row_of-from-requires-clause-leaves : goal.row_of-from-requires-clause-leaves
row_of-from-requires-clause-leaves c = omega (arith, c.next.ensures.value, legal c.args.self.now.place c.args.row _ c.is_target.ensures c.if-not-is_target.false)

pub push_legal-requires-clause-from : goal.push_legal-requires-clause-from
push_legal-requires-clause-from c = c.row_of-from.ensures.value ∙ ap (λ n. place n c.args.self.now.place.stacks + 1) c.next.ensures.value

pub returns-clause-target : goal.returns-clause-target
returns-clause-target c = found c.args.self.now.place c.args.row _ (sym c.if-not-is_target.false ∙ c.is_target.ensures)

pub returns-clause-legal : goal.returns-clause-legal
returns-clause-legal c = legal_by c.args.self.now.place c.args.row _ (returns-clause-target c)

pub returns-clause-at : goal.returns-clause-at
returns-clause-at c = leads_to c.args.self.now.place _ c.args.row (ap (λ (v : PlaceAndTrail). v.place) c.push_legal.ensures.pushed) ((returns-clause-target c).0 refl)
