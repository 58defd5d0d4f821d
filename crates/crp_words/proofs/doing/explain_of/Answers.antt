use Rattle.std.proofs.Common.{◌∙◌, None, ap, option_map, sym}
use Rattle.crp_jobs.specs.Advice.{place_words}
use Rattle.crp_words.proofs.Ended.{explained_at, explained_found}
use Rattle.crp_words.proofs.doing.explain_of.Goals as goal

pub returns-in_default-found_line : goal.returns-in_default-found_line
returns-in_default-found_line g c =
    explained_at (g.F.Files.known c.args.files.now) c.args.job.now c.args.fault.now None _ (ap (option_map place_words) (sym c.in_default.is) ∙ c.place_of.ensures) c.explain_fault.ensures

pub returns-in_default : goal.returns-in_default
returns-in_default g c =
    let line = c.in-Some-found_line.line in
    explained_found (g.F.Files.known c.args.files.now) c.args.job.now c.args.fault.now line.items _ (ap (option_map place_words) (sym c.in_default.is) ∙ c.place_of.ensures)
    c.in-Some-found_line.ensures.plain c.in-Some-found_line.ensures.placed (rw c.as_slice.ensures.value at c.explain_found.ensures)

pub returns : goal.returns
returns g c = explained_at (g.F.Files.known c.args.files.now) c.args.job.now c.args.fault.now _ _ (ap (option_map place_words) (sym c.in-Some.is) ∙ c.place_of.ensures) c.explain_fault-2.ensures
