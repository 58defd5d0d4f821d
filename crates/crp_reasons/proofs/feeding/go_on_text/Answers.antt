use Rattle.std.proofs.Common.{refl, sym, subst, ℕ, arith}
use Rattle.crp_row.specs.Reasons.{IsReasonByte}
use Rattle.crp_reasons.specs.Rests.{GoesOn, Text, Whole}
use Rattle.crp_reasons.proofs.Bracketed.{no_bracket}
use Rattle.crp_reasons.proofs.Onward.{byte_goes_on, bracket_goes_on}
use Rattle.crp_reasons.proofs.feeding.go_on_text.Goals as goal

pub returns-then-is_reason_byte : goal.returns-then-is_reason_byte
returns-then-is_reason_byte c =
    let may : IsReasonByte c.args.byte = c.if-is_reason_byte.ensures.0 refl in
    byte_goes_on c.args.number c.args.byte c.args.follower.now c.follow-closes.new.self may (λ e. no_bracket (subst IsReasonByte e may)) c.follow-closes.ensures.takes

pub returns-then-byte-eq93 : goal.returns-then-byte-eq93
returns-then-byte-eq93 c =
    subst (λ (b : ℕ). GoesOn (Text c.args.number c.args.follower.now) b (Whole c.args.number c.is_done.result)) (sym c.if-byte-eq93.true)
    (bracket_goes_on c.args.number c.args.follower.now c.is_done.result c.is_done.ensures no_bracket (omega arith))
