-- The numbers so far stand behind the word, each after a space.
use Rattle.std.proofs.Common.{◌≡◌, ◌++◌, take}
use Rattle.crp_cert.specs.Text.{spaced}
use Rattle.crp_cert.proofs.writing.push_numbers.Given as goal

abbrev pub invariant-loop-number : goal.invariant-loop-number
invariant-loop-number l = l.text.items ≡ l.initial.text.items ++ spaced (take l.number-index l.numbers)
