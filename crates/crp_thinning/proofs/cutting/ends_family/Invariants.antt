use Rattle.std.proofs.Common.{List, ℕ, [], ◌++◌, take}
use Rattle.crp_thinning.specs.Owed.{EndsFamily}
use Rattle.crp_thinning.specs.OneChain.{IsFair}
use Rattle.crp_thinning.proofs.cutting.ends_family.Given as goal

abbrev pub invariant-loop-i : goal.invariant-loop-i
invariant-loop-i l = record {
  fair : IsFair l.reading;
  back : (more : List ℕ) → EndsFamily l.place.place l.reading [] more → EndsFamily l.place.place l.initial.reading [] (take l.i l.text ++ more);
}
