use Rattle.crp_plan.specs.declared.moves.Move.{Move}
use Rattle.crp_plan.specs.Bay.{Legal, IsTaken, IsShifted}
use Rattle.crp_plan.proofs.Steps.{same_rows}
use Rattle.std.proofs.Common.{◌++◌, ◌∷◌, [], subst}
use Rattle.crp_said.proofs.LinesSoFar.{row_there}
use Rattle.crp_said.proofs.move_lines.push_move.Goals as goal

pub stack-stack-requires-clause-there : goal.stack-stack-requires-clause-there
stack-stack-requires-clause-there c =
    let s = c.args.walk.now in
    let k : IsShifted s c.in-Shift.from c.in-Shift.to c.requires.legal.0 = subst (λ (m : Move). Legal s m c.requires.legal.0) c.in-Shift.is c.requires.legal.1 in
    row_there s c.in-Shift.from (k.rest ++ k.moved ∷ []) (same_rows s.heights s.stacks c.requires.sound.stacks_fit) k.from_counts k.stack

pub stack-requires-clause-there : goal.stack-requires-clause-there
stack-requires-clause-there c =
    let s = c.args.walk.now in
    let k : IsShifted s c.in-Shift.from c.in-Shift.to c.requires.legal.0 = subst (λ (m : Move). Legal s m c.requires.legal.0) c.in-Shift.is c.requires.legal.1 in
    row_there s c.in-Shift.to k.onto (same_rows s.heights s.stacks c.requires.sound.stacks_fit) k.to_counts k.target

pub stack-requires-in-Take-clause-there : goal.stack-requires-in-Take-clause-there
stack-requires-in-Take-clause-there c =
    let s = c.args.walk.now in
    let k : IsTaken s c.in-Take.row c.requires.legal.0 = subst (λ (m : Move). Legal s m c.requires.legal.0) c.in-Take.is c.requires.legal.1 in
    row_there s c.in-Take.row (k.rest ++ s.next ∷ []) (same_rows s.heights s.stacks c.requires.sound.stacks_fit) k.row_counts k.stack
