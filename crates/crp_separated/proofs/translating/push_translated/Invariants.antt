-- What stands for the bytes so far is ready.
use Rattle.std.proofs.Common.{◌≡◌, ◌≤◌, ◌+◌, ◌*◌, ◌++◌, ◌-◌, length, drop}
use Rattle.arrayvec.specs.ArrayVec.{array_vec_len}
use Rattle.crp_separated.specs.Separators.{behind_all, translated}
use Rattle.crp_separated.specs.Given.{most_ready}
use Rattle.crp_separated.proofs.translating.push_translated.Given as goal

abbrev pub invariant-loop-byte : goal.invariant-loop-byte
invariant-loop-byte l = record {
  ready : l.ready.items ++ translated l.separators.from l.separators.to l.place (drop l.byte-index l.bytes) ≡ l.initial.ready.items ++ translated l.separators.from l.separators.to l.initial.place l.bytes;
  place : behind_all l.separators.from l.place (drop l.byte-index l.bytes) ≡ behind_all l.separators.from l.initial.place l.bytes;
  room : array_vec_len l.ready + 2 * (length l.bytes - l.byte-index) ≤ most_ready;
}
