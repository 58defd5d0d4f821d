use Rattle.std.proofs.Common.{◌≡◌, ◌∙◌, Some, sym, subst}
use Rattle.std.specs.Option.{option_copied}
use Rattle.std.proofs.lemmas.Result.{IfErr-weaker}
use Rattle.crp_tree.specs.Claims.{path_in}
use Rattle.crp_tree.specs.Parts.{claimed}
use Rattle.crp_cert.specs.Writing.{certificate_text, script_for}
use Rattle.crp_checker.specs.AcceptedTexts.{IsAcceptedText}
use Rattle.crp_callers.proofs.Plain.{left_of}
use Rattle.crp_callers.proofs.verdicts.check_written.Goals as goal

pub returns-in-Ok : goal.returns-in-Ok
returns-in-Ok c =
    let p = c.args.problem.now in
    let script = script_for c.args.bay.now (claimed p c.args.cert.now (path_in (option_copied c.args.plan))) in
    let text : c.deref.result.now ≡ certificate_text c.args.bay.now p c.args.cert.now (option_copied c.args.plan) = c.deref.ensures.value ∙ c.in-Ok.ensures in
    let law = c.written_is_accepted.ensures c.args.bay.now p c.args.cert.now (option_copied c.args.plan) c.bay-named.ensures.named c.requires.about c.requires.plan in
    let accepted = subst (λ bytes. IsAcceptedText (Some p) bytes script) (sym text) law in
    IfErr-weaker c.check_for.result _ _
    (λ refused is. left_of (c.accepted_or_refused.ensures.apart (Some p) c.deref.result.now script refused accepted) is) c.check_for.ensures.refused
