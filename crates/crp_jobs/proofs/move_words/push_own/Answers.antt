use Rattle.std.specs.Prelude.{codes}
use Rattle.std.specs.Fmt.{decimal}
use Rattle.crp_jobs.proofs.Shown.{two_more}
use Rattle.crp_jobs.proofs.move_words.push_own.Goals as goal

pub returns : goal.returns
returns c =
    two_more _ (codes "; it is lifted from row ") (decimal c.args.row) _ _ c.in_ok-extend_from_slice.ensures.items c.in_ok-push_decimal.ensures
