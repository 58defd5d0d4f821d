use Rattle.std.proofs.Common.{◌∙◌, refl, inr}
use Rattle.std.proofs.lemmas.Result.{err_from_is_err_and}
use Rattle.crp_sizes.specs.Reading.{failures_of_sizes}
use Rattle.crp_report.specs.Runs.{SourceSeen, source_seen}
use Rattle.crp_commands.proofs.AsSized.{few_calls, one_call}
use Rattle.crp_commands.proofs.Finished.{more_from}
use Rattle.crp_commands.proofs.OpenedLists.{list_bytes, list_closed, list_failures, list_opened}
use Rattle.crp_commands.proofs.over_files.sizes_of.Goals as goal

pub returns-in_err-sizes-clause-refused : goal.returns-in_err-sizes-clause-refused
returns-in_err-sizes-clause-refused g c =
    let p = err_from_is_err_and c.from_residual.result c.from_residual.ensures.1 in
    let list : SourceSeen = source_seen (list_bytes g.F.Input.Source.remaining) (list_failures g.F.Input.Source.failures) c.with_commas-list.result c.sizes_from-sizes.new.source in
    let fault = c.in_err-sizes.field-0.0 in
    rw (p.1, p.2) (inr (
      list,
      fault,
      list_opened _ _ _ list _ _ c.with_commas-list.ensures.bytes c.with_commas-list.ensures.count c.in-Ok.ensures.bytes c.in-Ok.ensures.new,
      refl,
      c.in_err-sizes.ensures.refused,
      more_from _ _ _ _ c.in-Ok.ensures.count (list_closed _ _ _ _ c.into_file.ensures.count c.close.ensures.count),
      few_calls (failures_of_sizes fault) _ _ _ _ (c.with_commas-list.ensures.count ∙ c.in-Ok.ensures.new) (one_call fault) c.in_err-sizes.ensures.ended,
    ))
