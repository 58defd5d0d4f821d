use Rattle.std.proofs.Common.{suc, ◌-◌, take, ap, ◌∙◌, arith}
use Rattle.std.proofs.lemmas.Option.{slice_get_within}
use Rattle.crp_bay.proofs.Reaching.{reached_sound, reached_same_rows}
use Rattle.crp_bounds.specs.Leasts.{least_ordered}
use Rattle.crp_bounds.proofs.Marking.{once_in, rows_known}
use Rattle.crp_bounds.proofs.known.leasts_of.Goals as goal

pub mark-requires-clause-once : goal.mark-requires-clause-once
mark-requires-clause-once c = once_in c.args.position.now.place (c.loop-row.row - 1) c.stack.result.now (reached_sound c.args.position.now.place c.stack.ensures.reached) c.stack.ensures.value

pub loop-row-preserved : goal.loop-row-preserved
loop-row-preserved c = record {
  known = rows_known c.args.position.now.place c.loop-row.leasts c.mark.new.leasts c.loop-row.row c.stack.result.now (reached_sound c.args.position.now.place c.stack.ensures.reached) (omega arith) c.stack.ensures.value c.loop-row.invariant.known
      (λ i lt. c.mark.ensures.known i lt ∙ ap (λ o. least_ordered o (take (suc i) c.stack.result.now)) c.ordered.ensures.value) c.mark.ensures.others;
  long = omega (arith, c.mark.auto.leasts, c.loop-row.invariant.long);
}

pub returns-clause-known : goal.returns-clause-known
returns-clause-known c = record {
  known = λ r i stack e lt. c.loop-row.invariant.known r i stack (omega (arith, slice_get_within c.args.position.now.place.stacks r stack e, reached_same_rows c.args.position.now.place c.rows-row-end.ensures.reached, c.rows-row-end.ensures.value)) e lt;
  all_ranks = c.loop-row.invariant.long;
}
