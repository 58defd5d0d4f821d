use Rattle.std.proofs.Common.{◌≡◌, ◌==◌, ◌∙◌, ap, sym, subst, arith, length, vec_len}
use Rattle.std.specs.List.{AllByRecursion}
use Rattle.std.proofs.lemmas.List.{length-map}
use Rattle.crp_order.specs.BayProblems.{leaving, IsNamedProblem}
use Rattle.crp_order.specs.Groups.{pointed, stacks_numbered}
use Rattle.crp_order.proofs.StatingSteps.{can_leave, stated-problem, problems-next, problems-same, problems-all, group_at}
use Rattle.crp_order.proofs.NamedSteps.{all_named, all_once}
use Rattle.crp_order.proofs.NamedProblems.{problems_named}
use Rattle.crp_order.proofs.stating.problems.Goals as goal
use Rattle.crp_order.proofs.stating.problems.Goals.{then-not-is_empty+in_ok-problem_of+in_ok-push, else-not-is_empty}

pub problem_of-requires-clause-leaving : goal.problem_of-requires-clause-leaving
problem_of-requires-clause-leaving c =
    let at = group_at c.args.yard.now c.args.sequence.now c.in_ok-groups.groups.items c.loop-i.i c.leaving-item.result c.in_ok-groups.ensures.groups (rw c.deref-leaving-items.ensures.value at c.loop-i-test.true)
    (rw c.deref-leaving-items.ensures.value at c.leaving-item.is) in
    let left : pointed c.deref.result.now ≡ leaving c.args.sequence.now (stacks_numbered c.args.yard.now c.loop-i.i) = ap pointed c.deref.ensures.value ∙ at.leaves ∙ ap (leaving c.args.sequence.now) (sym at.at.stacks) in
    rw left (can_leave c.args.sequence.now (stacks_numbered c.args.yard.now c.loop-i.i) c.in_ok-groups.ensures.sequenced)

pub loop-i-preserved : goal.loop-i-preserved
loop-i-preserved c =
    let at = group_at c.args.yard.now c.args.sequence.now c.in_ok-groups.groups.items c.loop-i.i c.leaving-item.result c.in_ok-groups.ensures.groups (rw c.deref-leaving-items.ensures.value at c.loop-i-test.true)
    (rw c.deref-leaving-items.ensures.value at c.leaving-item.is) in
    let same : length (pointed c.leaving-item.result.items) ≡ length (leaving c.args.sequence.now at.at.bay.1) = ap length at.leaves in
    let long : length (leaving c.args.sequence.now at.at.bay.1) ≡ vec_len c.leaving-item.result = omega (arith, same, length-map c.leaving-item.result.items (λ reference. reference.now)) in
    elim c.if-not-is_empty.branch [
      | then-not-is_empty+in_ok-problem_of+in_ok-push w ↦
          let made = w.in_ok-problem_of.field-0 in
          let left : pointed w.deref.result.now ≡ leaving c.args.sequence.now at.at.bay.1 = ap pointed w.deref.ensures.value ∙ at.leaves in
          problems-next c.args.yard.now c.args.sequence.now c.loop-i.i at.at.bay made c.loop-i.problems.items c.if-not-is_empty.problems.items at.at.here
          (ap (λ n. n == 0) long ∙ sym c.is_empty.ensures ∙ w.if-not-is_empty.true) (stated-problem c.args.yard.now c.args.sequence.now c.loop-i.i at.at.bay (pointed w.deref.result.now) made at.at.here left w.in_ok-problem_of.ensures)
          c.loop-i.invariant (ap (λ v. v.items) w.problems-is ∙ w.in_ok-push.ensures.items)
      | else-not-is_empty w ↦ rw w.problems-is (problems-same c.args.yard.now c.args.sequence.now c.loop-i.i at.at.bay c.loop-i.problems.items at.at.here (ap (λ n. n == 0) long ∙ sym c.is_empty.ensures ∙ w.if-not-is_empty.false) c.loop-i.invariant)
    ]

pub returns-clause-named : goal.returns-clause-named
returns-clause-named c =
    all_named c.args.yard.now c.args.sequence.now c.loop-i.problems.items c.in_ok-groups.ensures.yard c.in_ok-groups.ensures.sequenced
    (problems-all c.args.yard.now c.args.sequence.now c.in_ok-groups.groups.items c.deref-leaving-items.result.now c.loop-i.i c.loop-i.problems.items c.in_ok-groups.ensures.groups
    c.deref-leaving-items.ensures.value c.loop-i-test.false c.loop-i.invariant)

pub returns-clause-once : goal.returns-clause-once
returns-clause-once c =
    all_once c.args.yard.now c.args.sequence.now c.loop-i.problems.items c.in_ok-groups.ensures.yard
    (problems-all c.args.yard.now c.args.sequence.now c.in_ok-groups.groups.items c.deref-leaving-items.result.now c.loop-i.i c.loop-i.problems.items c.in_ok-groups.ensures.groups
    c.deref-leaving-items.ensures.value c.loop-i-test.false c.loop-i.invariant)

pub returns-clause-names : goal.returns-clause-names
returns-clause-names c = λ named.
    subst (AllByRecursion IsNamedProblem)
    (sym (problems-all c.args.yard.now c.args.sequence.now c.in_ok-groups.groups.items c.deref-leaving-items.result.now c.loop-i.i c.loop-i.problems.items c.in_ok-groups.ensures.groups
    c.deref-leaving-items.ensures.value c.loop-i-test.false c.loop-i.invariant))
    (problems_named c.args.yard.now c.args.sequence.now named)
