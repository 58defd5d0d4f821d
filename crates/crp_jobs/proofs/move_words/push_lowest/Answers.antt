use Rattle.std.proofs.Common.{◌+◌, length}
use Rattle.std.specs.Prelude.{codes}
use Rattle.std.specs.Fmt.{decimal}
use Rattle.crp_jobs.specs.Moves.{place_words}
use Rattle.crp_jobs.proofs.Shown.{four_more}
use Rattle.crp_jobs.proofs.move_words.push_lowest.Goals as goal

pub returns : goal.returns
returns c =
    four_more _ (codes "; the lowest free place of row ") (decimal c.args.row) (codes " is ") (place_words c.args.row (length c.args.stack.now + 1)) _ _ _ _
    c.in_ok-extend_from_slice.ensures.items
    c.in_ok-push_decimal.ensures
    c.in_ok-extend_from_slice-2.ensures.items
    c.in_ok-push_place.ensures
