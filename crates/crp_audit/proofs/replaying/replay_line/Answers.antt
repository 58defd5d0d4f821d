use Rattle.std.proofs.Common.{◌≡◌, ◌+◌, ◌∙◌, subst, refl, arith, ℕ, List, map, ◌++◌}
use Rattle.crp_plan.specs.declared.moves.Move.TheVariants.{Shift}
use Rattle.crp_plan.specs.Bay.{Position, IsTaken, IsShifted}
use Rattle.crp_plan.specs.Walks.{NoneToTake}
use Rattle.crp_said.specs.MoveLines.{move_line}
use Rattle.crp_audit.proofs.Follows.{from_none, none_yet, one_further, other_source, no_take_line, no_line}
use Rattle.crp_audit.proofs.replaying.replay_line.Goals as goal

pub returns-in-None-clause-none : goal.returns-in-None-clause-none
returns-in-None-clause-none c =
    let s : Position = c.args.walk.now in
    let taken : IsTaken s c.in-Some.row c.take_next.new.self = subst (λ (p : Position). IsTaken p c.in-Some.row c.take_next.new.self) c.copy-taken.ensures c.in-Some.ensures.taken in
    no_take_line (map (λ name. name.items) c.args.names.now) s c.args.bytes.now c.in-Some.row c.take_next.new.self c.requires taken (from_none c.in_ok-behind_line.field-0 c.in-None.is c.in_ok-behind_line.ensures.none)

pub loop-i-init : goal.loop-i-init
loop-i-init c = record {
  same = refl;
  no_take = subst NoneToTake c.copy-taken.ensures c.in_default.ensures.none;
  none = none_yet (map (λ name. name.items) c.args.names.now) c.args.walk.now c.args.bytes.now;
}

pub loop-i-preserved-in_default-shift : goal.loop-i-preserved-in_default-shift
loop-i-preserved-in_default-shift c =
    let s : Position = c.args.walk.now in
    let o = c.loop-i.invariant in
    let here : (from : ℕ) (t : Position) → IsShifted s from (c.loop-i.i + 1) t → ⊥ =
    subst (λ (p : Position). (from : ℕ) (t : Position) → IsShifted p from (c.loop-i.i + 1) t → ⊥) (c.copy-shifted.ensures ∙ o.same) c.in_default-shift.ensures.none in
    record {
      same = o.same;
      no_take = o.no_take;
      none = one_further (map (λ name. name.items) c.args.names.now) s c.args.bytes.now c.loop-i.i o.none (λ from t more legal e. here from t legal);
    }

pub loop-i-preserved : goal.loop-i-preserved
loop-i-preserved c =
    let s : Position = c.args.walk.now in
    let o = c.loop-i.invariant in
    let from : ℕ = c.in-Some-shift.from in
    let row : ℕ = c.loop-i.i + 1 in
    let legal : IsShifted s from row c.shift.new.self = subst (λ (p : Position). IsShifted p from row c.shift.new.self) (c.copy-shifted.ensures ∙ o.same) c.in-Some-shift.ensures.shifted in
    let none : (more : List ℕ) → c.args.bytes.now ≡ move_line (map (λ name. name.items) c.args.names.now) s (Shift from row) ++ more → ⊥ =
    subst (λ (p : Position). (more : List ℕ) → c.args.bytes.now ≡ move_line (map (λ name. name.items) c.args.names.now) p (Shift from row) ++ more → ⊥) o.same (from_none c.in_ok-behind_line-2.field-0 c.in-None-2.is c.in_ok-behind_line-2.ensures.none) in
    record {
      same = o.same;
      no_take = o.no_take;
      none = one_further (map (λ name. name.items) c.args.names.now) s c.args.bytes.now c.loop-i.i o.none (other_source (map (λ name. name.items) c.args.names.now) s c.args.bytes.now from row c.shift.new.self c.requires legal none);
    }

pub returns-clause-none : goal.returns-clause-none
returns-clause-none c =
    let o = c.loop-i.invariant in
    no_line (map (λ name. name.items) c.args.names.now) c.args.walk.now c.args.bytes.now c.loop-i.i c.requires o.no_take (omega (arith, c.rows-i-end.ensures.value)) o.none
