use Rattle.std.proofs.Common.{[], length, ap, ◌∙◌}
use Rattle.crp_callers.proofs.SmallFiles.{nothing_shows}
use Rattle.crp_callers.proofs.verdicts.check_no_file.Goals as goal

pub returns-in-Ok : goal.returns-in-Ok
returns-in-Ok c = ap length (c.as_slice.ensures ∙ c.shown_or_refused.ensures.one_list [] c.in-Ok.shown [] c.in-Ok.ensures.shown nothing_shows)

pub unreachable-requires : goal.unreachable-requires
unreachable-requires c =
    let refusal = c.in-Err.refusal in
    c.shown_or_refused.ensures.apart [] [] refusal.before refusal.number refusal.refused c.in_default.not-Memory nothing_shows c.in-Err.ensures.refused
