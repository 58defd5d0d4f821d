use Rattle.std.proofs.Common.{ℕ, sym, subst}
use Rattle.crp_plan.specs.declared.moves.Move.TheVariants.{Shift, Take}
use Rattle.crp_plan.specs.Bay.{Legal}
use Rattle.crp_callers.proofs.ways.one_move_at_a_time.Goals as goal

pub returns-clause-taken : goal.returns-clause-taken
returns-clause-taken c = λ s t u row other sound one again.
    let same = c.one_kind.ensures.one_take s row other t u sound one again in
    c.one_kind.ensures.one_end s (Take row) t u one (subst (λ (r : ℕ). Legal s (Take r) u) (sym same) again)

pub returns-clause-either : goal.returns-clause-either
returns-clause-either c = λ s t u row from to sound take shift. c.one_kind.ensures.exclusive s row from to t u sound take shift

pub returns-clause-shifted : goal.returns-clause-shifted
returns-clause-shifted c = λ s t u from to source sound one again.
    let same = c.one_kind.ensures.one_source s from to source to t u sound one again in
    c.one_kind.ensures.one_end s (Shift from to) t u one (subst (λ (r : ℕ). Legal s (Shift r to) u) (sym same) again)
