use Rattle.arrayvec.specs.ArrayVec.{ArrayVec}
use Rattle.std.proofs.Common.{[], ◌∷◌, length-append, ◌≡◌, length, sym, ap, ◌∙◌, subst, arith, ℕ}
use Rattle.std.specs.List.Sorted.{IsStrictlyIncreasing}
use Rattle.crp_bay.specs.Positions.{can_shift, targets}
use Rattle.crp_bay.proofs.Reaching.{looked_yes, looked_no, looked_all, targets_legal, targets_rise, no_targets}
use Rattle.crp_bay.proofs.position.Position.targets.Goals as goal
use Rattle.crp_bay.proofs.position.Position.targets.Goals.{then-is_target, else-is_target}

abbrev Targets : Type 0
Targets = ArrayVec ℕ

pub loop-row-preserved : goal.loop-row-preserved
loop-row-preserved c =
    elim c.if-is_target.branch [
      | then-is_target w ↦ record {
        value = looked_yes (can_shift c.args.self.now.place) c.loop-row.row c.loop-row.targets.items c.if-is_target.targets.items (omega arith) c.loop-row.invariant.value (sym w.if-is_target.true ∙ c.is_target.ensures) (ap (λ (v : Targets). v.items) w.targets-is ∙ w.push.ensures.items);
        few = omega (arith, c.loop-row.invariant.few, ap (λ (v : Targets). length v.items) w.targets-is, ap length w.push.ensures.items, length-append c.loop-row.targets.items (c.loop-row.row ∷ []));
      }
      | else-is_target w ↦ record {
        value = looked_no (can_shift c.args.self.now.place) c.loop-row.row c.loop-row.targets.items c.if-is_target.targets.items (omega arith) c.loop-row.invariant.value (sym w.if-is_target.false ∙ c.is_target.ensures) (ap (λ (v : Targets). v.items) w.targets-is);
        few = omega (arith, c.loop-row.invariant.few, ap (λ (v : Targets). length v.items) w.targets-is);
      }
    ]

pub returns-clause-legal : goal.returns-clause-legal
returns-clause-legal c p path row is a =
    let e : c.loop-row.targets.items ≡ targets c.args.self.now.place = looked_all c.args.self.now.place c.loop-row.row c.loop-row.targets.items c.loop-row.invariant.value (omega arith) in
    rw e (targets_legal c.args.self.now.place p path row is a)

pub returns-clause-rising : goal.returns-clause-rising
returns-clause-rising c =
    let e : c.loop-row.targets.items ≡ targets c.args.self.now.place = looked_all c.args.self.now.place c.loop-row.row c.loop-row.targets.items c.loop-row.invariant.value (omega arith) in
    subst IsStrictlyIncreasing (sym e) (targets_rise c.args.self.now.place)

pub returns-clause-done : goal.returns-clause-done
returns-clause-done c end =
    let e : c.loop-row.targets.items ≡ targets c.args.self.now.place = looked_all c.args.self.now.place c.loop-row.row c.loop-row.targets.items c.loop-row.invariant.value (omega arith) in
    e ∙ no_targets c.args.self.now.place end
