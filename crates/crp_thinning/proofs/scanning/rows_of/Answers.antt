use Rattle.std.proofs.Common.{◌≡◌, length, Some, refl, sym, ap, ◌∙◌, arith}
use Rattle.std.proofs.lemmas.Option.{slice_get_read}
use Rattle.std.specs.List.{slice_get}
use Rattle.crp_plan.specs.Rows.{holds}
use Rattle.crp_bay.proofs.Begun.{rows_marked, held_counts}
use Rattle.crp_thinning.proofs.scanning.rows_of.Goals as goal

pub mark-requires : goal.mark-requires
mark-requires c =
    let e : slice_get c.args.stacks.now c.loop-row.row ≡ Some c.index-stacks-row.result = slice_get_read c.args.stacks.now (length c.args.stacks.now) c.loop-row.row c.index-stacks-row.result refl c.loop-row-test.true c.index-stacks-row.is in
    record { few = λ x h. let b = c.requires.few x (held_counts c.args.stacks.now x c.loop-row.row c.index-stacks-row.result e (ap (holds x) (sym c.ranks.ensures.value) ∙ h)) in omega (arith, c.loop-row.invariant.long) }

pub loop-row-preserved : goal.loop-row-preserved
loop-row-preserved c =
    let e : slice_get c.args.stacks.now c.loop-row.row ≡ Some c.index-stacks-row.result = slice_get_read c.args.stacks.now (length c.args.stacks.now) c.loop-row.row c.index-stacks-row.result refl c.loop-row-test.true c.index-stacks-row.is in
    record {
      marked = rows_marked c.args.stacks.now c.loop-row.row c.index-stacks-row.result c.loop-row.row_of c.mark.new.row_of c.requires.once e c.loop-row.invariant.marked
          (λ x h. c.mark.ensures.marked x (ap (holds x) c.ranks.ensures.value ∙ h)) (λ x h. c.mark.ensures.others x (ap (holds x) c.ranks.ensures.value ∙ h));
      long = omega (arith, c.mark.auto.row_of, c.loop-row.invariant.long);
    }
