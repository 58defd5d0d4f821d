use Rattle.std.proofs.lemmas.Result.{IfOk-weaker, IfErr-weaker}
use Rattle.crp_callers.specs.SmallBay.{lines, small, small_script, script_lines}
use Rattle.crp_callers.proofs.Plain.{left_of}
use Rattle.crp_callers.proofs.SmallBays.{small_text_is}
use Rattle.crp_callers.proofs.certificates.read_small.Goals as goal

pub returns-clause-read : goal.returns-clause-read
returns-clause-read c =
    IfOk-weaker c.read_cert.result _ _ (λ script is. c.one_script.ensures (lines script_lines) script small_script is (small_text_is (c.begins_somewhere.ensures small))) c.read_cert.ensures.found

pub returns-clause-refused : goal.returns-clause-refused
returns-clause-refused c =
    IfErr-weaker c.read_cert.result _ _ (λ fault is. left_of (c.script_or_fault.ensures.apart (lines script_lines) small_script fault (small_text_is (c.begins_somewhere.ensures small))) is)
    c.read_cert.ensures.refused
