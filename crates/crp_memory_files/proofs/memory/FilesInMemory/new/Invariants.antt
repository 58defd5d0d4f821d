use Rattle.std.proofs.Common.{◌≡◌, All, false, vec_len}
use Rattle.crp_memory_files.proofs.memory.FilesInMemory.new.Given as goal

abbrev pub invariant-loop : goal.invariant-loop
invariant-loop l = record {
  many : vec_len l.written ≡ l.index;
  unwritten : All (λ written. written.begun ≡ false) l.written.items;
}
