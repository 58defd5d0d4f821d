-- How a thinned position begins: a position that a path of a problem leads to.
use Rattle.std.proofs.Common.{ℕ, ◌-◌, ◌≤◌, List, [], ◌∷◌, ap, arith}
use Rattle.crp_plan.specs.Rows.{occurrences}
use Rattle.crp_plan.specs.Bay.{Position, start, Runs}
use Rattle.crp_plan.specs.declared.moves.Move.{Move}
use Rattle.crp_plan.specs.declared.moves.Move.TheVariants.{Shift, Take}
use Rattle.crp_plan.proofs.Sound.{apart, occurrences_taken, occurrences_shifted}
use Rattle.crp_bay.specs.Reached.{IsReached}
use Rattle.crp_bay.proofs.Begun.{few_ranks}
use Rattle.crp_bay.proofs.Reaching.{reached_sound, reached_settled, reached_rows, reached_low, reached_ordered, reached_next}
use Rattle.crp_bounds.proofs.Leasts.{few_blocked}
use Rattle.crp_thinned.specs.Missing.{IsSoundlyThin}
use Rattle.crp_thinned.proofs.Keeping.{thin_real}
use Rattle.crp_thinning.specs.Steps.{IsFine}

-- moves bring no container
occurs_less : (x : ℕ) (s t : Position) (moves : List Move) → Runs s moves t → occurrences x t.stacks ≤ occurrences x s.stacks
occurs_less x s t [] r = omega (arith, ap (λ (v : Position). occurrences x v.stacks) r)
occurs_less x s t (Shift from to ∷ moves) r =
    let k = r.1 in
    omega (
      arith,
      occurs_less x r.0 t moves r.2,
      ap (λ (v : Position). occurrences x v.stacks) k.after,
      occurrences_shifted x k.moved s.stacks (from - 1) (to - 1) k.rest k.onto (apart from to k.from_counts k.to_counts k.another) k.stack k.target,
    )
occurs_less x s t (Take row ∷ moves) r =
    let k = r.1 in
    omega (arith, occurs_less x r.0 t moves r.2, ap (λ (v : Position). occurrences x v.stacks) k.after, occurrences_taken x s.next s.stacks (row - 1) k.rest k.stack)

pub fine_start : (s : Position) → IsReached s → IsFine 0 s
fine_start s r =
    let sound = reached_sound s r in let n = reached_next s r in let within = n.1 in
    record {
      few_rows = (reached_rows s r).1;
      low = λ i d lt. (reached_low s r i d lt).1;
      few_ordered = reached_ordered s r;
      stacks_fit = sound.stacks_fit;
      once = sound.once;
      ranks = λ x h. few_ranks r.problem r.is_problem x (omega (arith, occurs_less x (start r.problem) s r.is_at.moves r.is_at.runs));
      gone = sound.gone;
      within = within;
      few = omega (arith, few_blocked s r);
    }

pub thin_start : (s : Position) → IsReached s → IsSoundlyThin s
thin_start s r = thin_real s (reached_sound s r) (λ row t k. reached_settled s r row t k)
