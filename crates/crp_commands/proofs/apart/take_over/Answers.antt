use Rattle.std.proofs.Common.{◌≡◌, rules, arith, subst, IfSome}
use Rattle.std.specs.Io.KnownBytes.{Appends}
use Rattle.std.proofs.lemmas.Result.{err_from_is_err_and}
use Rattle.crp_plan.specs.Devices.{AppendsPart}
use Rattle.crp_plan.proofs.Interruptions.{has_failed}
use Rattle.crp_commands.specs.Apart.{IsFoundIn}
use Rattle.crp_commands.proofs.SideBySide.{checks_found, found_stops, not_begun}
use Rattle.crp_commands.proofs.apart.take_over.Goals as goal

pub returns-in_err-write_all-clause-fault : goal.returns-in_err-write_all-clause-fault
returns-in_err-write_all-clause-fault g c =
    let p = err_from_is_err_and c.from_residual.result c.from_residual.ensures.1 in
    let found = c.in-Some.found in
    let k : IsFoundIn c.args.block.now found = subst (λ f. IfSome f (IsFoundIn c.args.block.now)) c.in-Some.is c.requires.found in
    let here : found.from ≡ c.args.at = search rules in
    rw (p.1, p.2)
    (found_stops c.args.block.now c.args.at found c.args.files.now c.args.number.now _ _ _ _ k here (not_begun c.args.files.now c.has_begun.result c.if-has_begun.false c.has_begun.ensures)
    (has_failed c.in_err-write_all.ensures.gave_up) (subst (AppendsPart _ _) c.deref.ensures.value c.in_err-write_all.ensures.part))

pub returns-clause-on : goal.returns-clause-on
returns-clause-on g c =
    let found = c.in-Some.found in
    let k : IsFoundIn c.args.block.now found = subst (λ f. IfSome f (IsFoundIn c.args.block.now)) c.in-Some.is c.requires.found in
    let here : found.from ≡ c.args.at = search rules in
    let next = k.next in
    checks_found c.args.block.now c.args.at found c.args.files.now c.args.number.now _ _ _ k here (not_begun c.args.files.now c.has_begun.result c.if-has_begun.false c.has_begun.ensures) (omega arith)
    (subst (Appends _ _) c.deref.ensures.value c.in_ok-write_all.ensures.all)
