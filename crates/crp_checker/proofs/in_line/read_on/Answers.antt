use Rattle.std.proofs.Common.{List, ℕ, ◌++◌, ◌+◌, length, take, refl, sym, ◌∙◌, subst, arith, ap}
use Rattle.std.proofs.lemmas.List.{take_all}
use Rattle.crp_checker.specs.Openings.{IsOpening}
use Rattle.crp_checker.specs.Stages.{HasCome}
use Rattle.crp_checker.proofs.AtLines.{one_more, named, ended, refused_line, still_open}
use Rattle.crp_checker.proofs.in_line.read_on.Goals as goal

pub returns-in-Name-clause-come : goal.returns-in-Name-clause-come
returns-in-Name-clause-come c wanted before at =
    let first : List ℕ = c.args.begun.items in
    let came : List ℕ = c.loop-i.begun.items in
    let new : List ℕ = c.open_by.new.begun.items in
    let taken = take (c.loop-i.i + 1) c.args.bytes.now in
    let is = one_more first came new c.args.bytes.now c.loop-i.i 0 c.loop-i-test.true c.loop-i.invariant.begun c.in_ok-open_by.ensures.added in
    let opening = subst (IsOpening c.args.findings.problem c.count-count.result c.args.findings.line came new) c.in-Name.is c.in_ok-open_by.ensures.opening in
    let begins = named wanted before taken c.args.findings first new c.in-Name.name at is (λ none. opening.1 (c.loop-i.invariant.no_name none)) in
    c.in_ok-begin_part-in-Name.ensures wanted (before ++ taken) at.script at.line at.are begins

pub returns-in-Ended-clause-come : goal.returns-in-Ended-clause-come
returns-in-Ended-clause-come c wanted before at =
    let first : List ℕ = c.args.begun.items in
    let came : List ℕ = c.loop-i.begun.items in
    let new : List ℕ = c.open_by.new.begun.items in
    let taken = take (c.loop-i.i + 1) c.args.bytes.now in
    let is = one_more first came new c.args.bytes.now c.loop-i.i 0 c.loop-i-test.true c.loop-i.invariant.begun c.in_ok-open_by.ensures.added in
    let opening = subst (IsOpening c.args.findings.problem c.count-count.result c.args.findings.line came new) c.in-Ended.is c.in_ok-open_by.ensures.opening in
    ended wanted before taken c.args.findings first new c.count-count.result c.count-count.ensures at is (λ none. opening (c.loop-i.invariant.no_end none))

pub returns-in-Refused-clause-come : goal.returns-in-Refused-clause-come
returns-in-Refused-clause-come c wanted before at =
    let first : List ℕ = c.args.begun.items in
    let came : List ℕ = c.loop-i.begun.items in
    let new : List ℕ = c.open_by.new.begun.items in
    let taken = take (c.loop-i.i + 1) c.args.bytes.now in
    let is = one_more first came new c.args.bytes.now c.loop-i.i 0 c.loop-i-test.true c.loop-i.invariant.begun c.in_ok-open_by.ensures.added in
    let opening = subst (IsOpening c.args.findings.problem c.count-count.result c.args.findings.line came new) c.in-Refused.is c.in_ok-open_by.ensures.opening in
    subst (HasCome wanted (before ++ taken)) (sym c.faulty.ensures)
    (refused_line wanted before taken c.args.findings first new c.count-count.result c.in-Refused.fault c.count-count.ensures at is (λ problem none. opening problem (c.loop-i.invariant.no_name none)))

pub loop-i-preserved : goal.loop-i-preserved
loop-i-preserved c =
    let first : List ℕ = c.args.begun.items in
    let came : List ℕ = c.loop-i.begun.items in
    let new : List ℕ = c.open_by.new.begun.items in
    let opening = subst (IsOpening c.args.findings.problem c.count-count.result c.args.findings.line came new) c.in-Open.is c.in_ok-open_by.ensures.opening in
    record {
      findings = refl;
      count = c.count-count.ensures;
      begun = one_more first came new c.args.bytes.now c.loop-i.i 0 c.loop-i-test.true c.loop-i.invariant.begun c.in_ok-open_by.ensures.added;
      no_name = λ none. opening.0 (c.loop-i.invariant.no_name none);
      no_end = λ none. opening.1;
    }

pub returns-clause-come : goal.returns-clause-come
returns-clause-come c wanted before at =
    let bytes : List ℕ = c.args.bytes.now in
    let all = c.loop-i.invariant.begun ∙ ap (λ l. c.args.begun.items ++ l) (take_all c.loop-i.i bytes (omega arith) ∙ sym (take_all (length bytes) bytes (omega arith))) in
    still_open wanted before (take (length c.args.bytes.now) c.args.bytes.now) c.args.findings c.args.begun.items c.loop-i.begun.items c.count-count.result c.count-count.ensures at all c.loop-i.invariant.no_name c.loop-i.invariant.no_end
