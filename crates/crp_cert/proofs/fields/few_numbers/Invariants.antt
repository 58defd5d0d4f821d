use Rattle.std.proofs.Common.{◌≡◌, ◌-◌, ◌++◌, length, Some}
use Rattle.crp_cert.specs.Reading.{◌>>=◌, numbers_at}
use Rattle.crp_cert.proofs.fields.few_numbers.Given as goal

abbrev pub invariant-loop : goal.invariant-loop
invariant-loop l = record { read : (numbers_at (12 - l.counter) l.rest >>= λ x. Some (l.numbers.items ++ x.0, x.1)) ≡ numbers_at 12 l.bytes; count : length l.numbers.items ≡ l.counter }
