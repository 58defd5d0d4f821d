use Rattle.std.proofs.Common.{◌≡◌, ◌≤◌, ◌-◌, ◌++◌, length, take, drop}
use Rattle.crp_cert.specs.Reading.{reason_word_at}
use Rattle.crp_cert.proofs.trees.reason_word.Given as goal

abbrev pub invariant-loop-count : goal.invariant-loop-count
invariant-loop-count l = record {
  within : l.count ≤ length l.bytes;
  taken : reason_word_at l.bytes ≡ (take l.count l.bytes ++ (reason_word_at (drop l.count l.bytes)).0, (reason_word_at (drop l.count l.bytes)).1);
}

abbrev pub decreases-loop-count : goal.decreases-loop-count
decreases-loop-count l = length l.bytes - l.count
