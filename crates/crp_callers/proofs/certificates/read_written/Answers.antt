use Rattle.std.proofs.Common.{◌≡◌, ◌∙◌}
use Rattle.std.specs.Option.{option_copied}
use Rattle.std.proofs.lemmas.Result.{IfOk-weaker, IfErr-weaker}
use Rattle.crp_tree.specs.Claims.{path_in}
use Rattle.crp_tree.specs.Parts.{claimed}
use Rattle.crp_cert.specs.declared.script.Script.{Script}
use Rattle.crp_cert.specs.Script.{IsScriptOf}
use Rattle.crp_cert.specs.Writing.{CanBeSpelled, certificate_text, script_for}
use Rattle.crp_callers.proofs.Plain.{left_of}
use Rattle.crp_callers.proofs.certificates.read_written.Goals as goal

abbrev script_in : goal.After-drop-text → Script
script_in c = script_for c.args.bay.now (claimed c.args.problem.now c.args.cert.now (path_in (option_copied c.args.plan)))

-- the bytes that are read are the text of the script that was written
is_written : (c : goal.After-drop-text) → IsScriptOf c.deref.result.now (script_in c)
is_written c =
    let route = path_in (option_copied c.args.plan) in
    let claim = claimed c.args.problem.now c.args.cert.now route in
    let law = c.written_is_read.ensures in
    let spelled : CanBeSpelled claim = record {
      accepted = c.claims_are_accepted.ensures c.args.problem.now c.args.cert.now route c.requires.about c.requires.plan;
      rising = law.rising c.args.problem.now c.args.cert.now route c.requires.about.certificate;
    } in
    let text : c.deref.result.now ≡ certificate_text c.args.bay.now c.args.problem.now c.args.cert.now (option_copied c.args.plan) = c.deref.ensures.value ∙ c.in-Ok.ensures in
    ((law.read c.args.bay.now claim c.bay-named.ensures.named spelled).0, text)

pub returns-in-Ok-clause-same : goal.returns-in-Ok-clause-same
returns-in-Ok-clause-same c =
    IfOk-weaker c.read_cert.result _ _ (λ script is. c.one_script.ensures c.deref.result.now script (script_in c) is (is_written c)) c.read_cert.ensures.found

pub returns-in-Ok-clause-refused : goal.returns-in-Ok-clause-refused
returns-in-Ok-clause-refused c =
    IfErr-weaker c.read_cert.result _ _
    (λ fault is. left_of (c.script_or_fault.ensures.apart c.deref.result.now (script_in c) fault (is_written c)) is) c.read_cert.ensures.refused
