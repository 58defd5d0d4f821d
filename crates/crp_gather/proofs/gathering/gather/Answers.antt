use Rattle.std.proofs.Common.{◌<◌, List, length, All, AllPairs, sym, subst, ◌∙◌}
use Rattle.std.proofs.lemmas.List.Sorted.{IsPermutation-sym}
use Rattle.std.proofs.lemmas.Result.{err_from_is_err_and}
use Rattle.crp_tree.specs.Names.{Precedes}
use Rattle.crp_tree.specs.Parts.{ProblemPart, names_of, IsKeptPart}
use Rattle.crp_gather.specs.Gathers.{AreWhole, IsGatherFault}
use Rattle.crp_gather.proofs.InOrder.{rises}
use Rattle.crp_gather.proofs.Moved.{whole_moved, refusal_moved}
use Rattle.crp_gather.proofs.Accepted.{whole_once, whole_some}
use Rattle.crp_gather.proofs.Wholes.{about}
use Rattle.crp_gather.proofs.gathering.gather.Goals as goal

pub returns-in_err-accept-clause-refused : goal.returns-in_err-accept-clause-refused
returns-in_err-accept-clause-refused c =
    let p = err_from_is_err_and c.from_residual-in_err-accept.result c.from_residual-in_err-accept.ensures.1 in
    let ys = c.put_in_order.new.parts.items in
    let xs = c.args.parts.items in
    let fault = c.in_err-accept.field-0.0 in
    let problem = c.args.problem.now in
    let refused = subst (λ l. IsGatherFault problem l fault) c.deref.ensures.value c.in_err-accept.ensures.refused in
    let moved = refusal_moved problem ys xs fault (IsPermutation-sym xs ys c.put_in_order.ensures.moved) refused in
    rw (p.1, p.2) moved

pub of_parts-requires-clause-some : goal.of_parts-requires-clause-some
of_parts-requires-clause-some c =
    let whole = subst (AreWhole c.args.problem.now) c.deref.ensures.value c.in_ok-accept.ensures.whole in
    subst (λ l. 0 < length l) (sym c.from_vec.ensures) (whole_some c.args.problem.now c.put_in_order.new.parts.items whole)

pub of_parts-requires-clause-rising : goal.of_parts-requires-clause-rising
of_parts-requires-clause-rising c =
    let ys = c.put_in_order.new.parts.items in
    let whole = subst (AreWhole c.args.problem.now) c.deref.ensures.value c.in_ok-accept.ensures.whole in
    subst (λ (l : List ProblemPart). AllPairs Precedes (names_of l)) (sym c.from_vec.ensures)
    (rises (names_of ys) c.in_ok-put_in_order.ensures.sorted (whole_once c.args.problem.now ys whole))

pub returns-clause-whole : goal.returns-clause-whole
returns-clause-whole c =
    let ys = c.put_in_order.new.parts.items in
    let xs = c.args.parts.items in
    let whole = subst (AreWhole c.args.problem.now) c.deref.ensures.value c.in_ok-accept.ensures.whole in
    whole_moved c.args.problem.now ys xs (IsPermutation-sym xs ys c.put_in_order.ensures.moved) whole

pub returns-clause-about : goal.returns-clause-about
returns-clause-about c =
    let p = c.args.problem.now in
    let ys = c.put_in_order.new.parts.items in
    let whole = subst (AreWhole p) c.deref.ensures.value c.in_ok-accept.ensures.whole in
    let kept = subst (All IsKeptPart) c.deref.ensures.value c.in_ok-accept.ensures.parts in
    about p ys c.of_parts.result whole kept (sym (c.of_parts.ensures.parts ∙ c.from_vec.ensures)) c.of_parts.ensures.certificate
