use Rattle.std.proofs.Common.{sym, arith}
use Rattle.crp_reasons.proofs.Digits.{behind_zero, behind_number, too_high, one_more}
use Rattle.crp_reasons.proofs.numbers.more_digits.Goals as goal
use Rattle.crp_reasons.proofs.numbers.more_digits.Goals.{then-is_zero-via-then-is_zero, then-is_zero-via-else-is_zero+then-not-is_ascii_digit}

pub returns-then-is_zero-clause-none : goal.returns-then-is_zero-clause-none
returns-then-is_zero-clause-none c n rest behind low e =
    elim c.then-is_zero.branch [
      | then-is_zero-via-then-is_zero w ↦ behind_zero c.args.number n c.args.byte rest behind w.if-is_zero.true low e
      | then-is_zero-via-else-is_zero+then-not-is_ascii_digit w ↦ behind_number c.args.number n c.args.byte rest behind (sym w.if-not-is_ascii_digit.ensures.value) (omega arith) low e
    ]

pub returns-then-more-gt255-clause-none : goal.returns-then-more-gt255-clause-none
returns-then-more-gt255-clause-none c n rest behind low e =
    absurd (too_high c.args.number n c.args.byte rest behind (sym c.if-not-is_ascii_digit.ensures.value) (omega arith) (omega arith) low e)

pub returns-clause-some : goal.returns-clause-some
returns-clause-some c = one_more c.args.number c.args.byte (let other = c.if-is_zero.false in omega arith) (omega arith) (sym c.if-not-is_ascii_digit.ensures.value)
