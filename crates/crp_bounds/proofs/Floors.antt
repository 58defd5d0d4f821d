-- A plan through a path has at least the length of that and the bound of the position there.
use Rattle.std.proofs.Common.{◌≡◌, ℕ, ◌+◌, ◌≤◌, List, ◌++◌, length, sym, ap, ◌∙◌, arith, length-append}
use Rattle.crp_plan.specs.declared.moves.Move.{Move}
use Rattle.crp_plan.specs.Bay.{Problem, IsProblem, IsPlan, IsAt, Position, path_of, relocations}
use Rattle.crp_plan.proofs.Covered.{from_at, at_sound, relocations-path}
use Rattle.crp_bounds.specs.Bounds.{look_ahead, blocking}
use Rattle.crp_bounds.proofs.Bounding.{ahead_bound, blocking_bound}

-- the rest of the plan has at least the bound
pub cut_floor : (p : Problem) (path more : List ℕ) (s : Position) (moves : List Move) → IsProblem p → IsAt p path s → IsPlan p moves → path_of moves ≡ path ++ more →
    (length path + look_ahead s ≤ relocations moves) × (length path + blocking s ≤ relocations moves)
cut_floor p path more s moves is a plan e =
    let r = from_at p path more s moves is a plan e in
    let sizes : relocations moves ≡ length path + relocations r.0 =
    relocations-path moves ∙ ap length e ∙ length-append path more ∙ ap (λ n. length path + n) (sym (relocations-path r.0 ∙ ap length r.2)) in
    (omega (arith, ahead_bound s r.0 plan.0 (at_sound p path s is a) r.1 plan.2), omega (arith, blocking_bound s r.0 plan.0 (at_sound p path s is a) r.1 plan.2))
