use Rattle.std.proofs.Common.{sym}
use Rattle.crp_reasons.proofs.Digits.{one_digit, no_number}
use Rattle.crp_reasons.proofs.numbers.first_digit.Goals as goal

pub returns-then-is_ascii_digit-clause-some : goal.returns-then-is_ascii_digit-clause-some
returns-then-is_ascii_digit-clause-some c = one_digit c.args.byte (sym c.if-is_ascii_digit.ensures.value)

pub returns-else-is_ascii_digit-clause-none : goal.returns-else-is_ascii_digit-clause-none
returns-else-is_ascii_digit-clause-none c n rest behind low e = no_number c.args.byte n rest behind (sym c.if-is_ascii_digit.ensures.value) low e
