use Rattle.std.proofs.Common.{ℕ, ◌↔◌, List, Contains, sym, ◌∙◌, subst}
use Rattle.crp_gather.specs.Gathers.{Need, IsDouble, IsGap, IsNever}
use Rattle.crp_gather.proofs.Accepted.{none_double, missing_first, none_missing, whole_from}
use Rattle.crp_gather.proofs.gathering.accept.Goals as goal
use Rattle.crp_gather.proofs.gathering.accept.Goals.{In_default, In_default-first_absent}

-- no two parts have one name
once : (c : In_default) → IsNever (IsDouble c.args.parts.now)
once c = none_double c.args.parts.now c.deref.result.now (c.deref.ensures.value ∙ c.in_ok-names.ensures) c.in_default.ensures.none

-- each needed name has a part
full : (c : In_default-first_absent) → IsNever (IsGap c.args.parts.now)
full c =
    none_missing c.args.parts.now c.deref-3.result.now c.deref-2.result.now (c.deref-3.ensures.value ∙ c.in_ok-names.ensures)
    (subst (λ l. (n : List ℕ) → Contains l n ↔ Need c.args.parts.now n) (sym c.deref-2.ensures.value) c.in_ok-needed.ensures.all)
    c.in_default-first_absent.ensures.none

pub returns-in-Some-first_absent-clause-refused : goal.returns-in-Some-first_absent-clause-refused
returns-in-Some-first_absent-clause-refused c =
    let d = (goal.at.returns-in-Some-first_absent-clause-refused c).In_default in (
      once d,
      missing_first c.args.parts.now c.deref-3.result.now c.deref-2.result.now c.in-Some-first_absent.name (c.deref-3.ensures.value ∙ c.in_ok-names.ensures)
          (subst (λ l. (n : List ℕ) → Contains l n ↔ Need c.args.parts.now n) (sym c.deref-2.ensures.value) c.in_ok-needed.ensures.all)
          c.in-Some-first_absent.ensures.first,
    )

pub first_stranger-requires-clause-all : goal.first_stranger-requires-clause-all
first_stranger-requires-clause-all c =
    subst (λ l. (n : List ℕ) → Contains l n ↔ Need c.args.parts.now n) (sym c.deref-4.ensures.value) c.in_ok-needed.ensures.all

pub returns-in-Some-first_stranger-clause-refused : goal.returns-in-Some-first_stranger-clause-refused
returns-in-Some-first_stranger-clause-refused c =
    let here = goal.at.returns-in-Some-first_stranger-clause-refused c in
    (once here.In_default, full here.In_default-first_absent, c.in-Some-first_stranger.ensures.first)

pub returns-clause-whole : goal.returns-clause-whole
returns-clause-whole c =
    let here = goal.at.returns-clause-whole c in
    whole_from c.args.problem.now c.args.parts.now (once here.In_default) (full here.In_default-first_absent) c.in_default-first_stranger.ensures.none

pub returns-clause-parts : goal.returns-clause-parts
returns-clause-parts c = c.in_default-first_stranger.ensures.parts
