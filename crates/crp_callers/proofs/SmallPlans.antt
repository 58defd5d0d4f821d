-- The plan of the small bay is one, and is said so.
use Rattle.std.proofs.Common.{◌++◌, [], ◌∷◌, refl, arith}
use Rattle.crp_plan.specs.declared.moves.Move.TheVariants.{Shift, Take}
use Rattle.crp_plan.specs.Bay.{Position, Legal, start, IsPlan}
use Rattle.crp_planned.specs.Planned.{AreSaid}
use Rattle.crp_callers.specs.SmallBay.{small}
use Rattle.crp_callers.specs.SmallPlan.{small_plan, small_end}
use Rattle.crp_callers.specs.SmallReport.{leaving, staying, small_moves}

-- after the first move, after the second, and after the third
abbrev moved : Position
moved = record (start small) { stacks = (1 ∷ []) ∷ (2 ∷ 3 ∷ []) ∷ [] }

abbrev taken : Position
taken = record (start small) { next = 2; stacks = [] ∷ (2 ∷ 3 ∷ []) ∷ [] }

abbrev moved_back : Position
moved_back = record (start small) { next = 2; stacks = (3 ∷ []) ∷ (2 ∷ []) ∷ [] }

first : Legal (start small) (Shift 1 2) moved
first = record {
  unfinished = omega arith;
  from_counts = omega arith;
  to_counts = omega arith;
  another = omega arith;
  rest = 1 ∷ [];
  moved = 3;
  stack = refl;
  buried = refl;
  not_top = omega arith;
  onto = 2 ∷ [];
  target = refl;
  height = 2;
  limit = refl;
  room = omega arith;
  after = refl;
}

second : Legal moved (Take 1) taken
second = record { unfinished = omega arith; row_counts = omega arith; rest = []; stack = refl; after = refl }

third : Legal taken (Shift 2 1) moved_back
third = record {
  unfinished = omega arith;
  from_counts = omega arith;
  to_counts = omega arith;
  another = omega arith;
  rest = 2 ∷ [];
  moved = 3;
  stack = refl;
  buried = refl;
  not_top = omega arith;
  onto = [];
  target = refl;
  height = 2;
  limit = refl;
  room = omega arith;
  after = refl;
}

fourth : Legal moved_back (Take 2) small_end
fourth = record { unfinished = omega arith; row_counts = omega arith; rest = []; stack = refl; after = refl }

pub small_plan_is : IsPlan small small_plan
small_plan_is = (small_end, (moved, first, (taken, second, (moved_back, third, (small_end, fourth, refl)))), refl)

pub small_said : AreSaid (leaving ++ staying) (start small) small_plan small_moves small_end
small_said = (refl, (moved, first, (refl, (taken, second, (refl, (moved_back, third, (refl, (small_end, fourth, refl))))))))
