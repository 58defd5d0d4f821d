use Rattle.std.proofs.lemmas.Result.{IfOk-weaker}
use Rattle.crp_words.specs.Commands.{audit_files, with_bays, with_partial, with_size}
use Rattle.crp_words.proofs.commands.audit.Goals as goal

pub returns : goal.returns
returns c =
    let sized = c.in_ok-sized.ensures audit_files c.in_ok-audit_files.ensures in
    let ordered = c.in_ok-ordered.ensures (with_size audit_files) sized in
    let early = c.in_ok-early.ensures (with_bays (with_size audit_files)) ordered in
    IfOk-weaker c.with_json.result _ _ (λ new more. more (with_partial (with_bays (with_size audit_files))) early) c.with_json.ensures
