use Rattle.std.proofs.Common.{◌≢◌, ◌∙◌, length, sym, arith, tests}
use Rattle.crp_jobs.proofs.Shown.{place-words, six_pieces}
use Rattle.crp_jobs.proofs.placed.place_text.Goals as goal

pub returns : goal.returns
returns c =
    let some : length c.args.bytes.now ≢ 0 = λ e. absurd (grind (arith, tests, e, c.is_empty.ensures, c.if-is_empty.false)) in
    six_pieces _ _ _ _ _ _ _ _ _ _ _ _ _
    c.new-said.ensures.items
    c.in_ok-extend_from_slice.ensures.items
    c.in_ok-push_decimal.ensures
    c.in_ok-extend_from_slice-3.ensures.items
    c.in_ok-push_decimal-3.ensures
    c.in_ok-extend_from_slice-4.ensures.items
    c.in_ok-extend_from_slice-5.ensures.items
    ∙ sym (place-words c.args.what.now c.args.bytes.now c.args.number c.args.line some)
