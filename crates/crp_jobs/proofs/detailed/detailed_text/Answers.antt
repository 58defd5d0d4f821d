use Rattle.crp_jobs.proofs.Shown.{seven_pieces}
use Rattle.crp_jobs.proofs.detailed.detailed_text.Goals as goal

pub returns : goal.returns
returns c =
    seven_pieces _ _ _ _ _ _ _ _ _ _ _ _ _ _ _
    c.new-said.ensures.items
    c.in_ok-extend_from_slice.ensures.items
    c.in_ok-push_decimal.ensures
    c.in_ok-extend_from_slice-2.ensures.items
    c.in_ok-push_decimal-2.ensures
    c.in_ok-extend_from_slice-3.ensures.items
    c.in_ok-extend_from_slice-4.ensures.items
    c.in_ok-extend_from_slice-5.ensures.items
