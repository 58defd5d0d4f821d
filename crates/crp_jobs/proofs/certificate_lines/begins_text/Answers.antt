use Rattle.crp_jobs.proofs.Shown.{six_pieces}
use Rattle.crp_jobs.proofs.certificate_lines.begins_text.Goals as goal

pub returns : goal.returns
returns c =
    six_pieces _ _ _ _ _ _ _ _ _ _ _ _ _
    c.new-said.ensures.items
    c.in_ok-extend_from_slice.ensures.items
    c.in_ok-push_decimal.ensures
    c.in_ok-extend_from_slice-2.ensures.items
    c.in_ok-push_decimal-2.ensures
    c.in_ok-extend_from_slice-3.ensures.items
    c.in_ok-extend_from_slice-4.ensures.items
