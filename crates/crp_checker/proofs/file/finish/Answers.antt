use Rattle.std.proofs.Common.{sym, ◌∙◌, subst}
use Rattle.crp_checker.specs.Files.{FileShows}
use Rattle.crp_checker.specs.FedFiles.{ShowsLast}
use Rattle.crp_checker.proofs.FileFed.{memory_last}
use Rattle.crp_checker.proofs.file.finish.Goals as goal

pub returns-in-Ok-None-clause-shown : goal.returns-in-Ok-None-clause-shown
returns-in-Ok-None-clause-shown c file read =
    subst (FileShows file) (sym c.of.ensures) (subst (ShowsLast file c.args.verdicts.items) c.in-Ok-None.field-0-is (c.in-Ok-None.ensures.last file c.args.verdicts.items read))

pub returns-in-Ok-clause-shown : goal.returns-in-Ok-clause-shown
returns-in-Ok-clause-shown c file read =
    let shows = subst (ShowsLast file c.args.verdicts.items) c.in-Ok-Some.field-0-is (c.in-Ok-Some.ensures.last file c.args.verdicts.items read) in
    subst (FileShows file) (sym (c.of-in-Ok.ensures ∙ c.in-Ok.ensures.items)) shows

pub returns-in-Err-push-clause-refused : goal.returns-in-Err-push-clause-refused
returns-in-Err-push-clause-refused c file read =
    let shows = subst (ShowsLast file c.args.verdicts.items) c.in-Ok-Some.field-0-is (c.in-Ok-Some.ensures.last file c.args.verdicts.items read) in
    rw (c.refused_behind.ensures.before, c.refused_behind.ensures.number, c.refused_behind.ensures.refused) (rw c.in-Err-push.ensures.items (memory_last file c.args.verdicts.items c.in-Ok-Some.last shows))
