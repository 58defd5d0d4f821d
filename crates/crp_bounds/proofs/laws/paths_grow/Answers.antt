use Rattle.std.proofs.Common.{arith, [], ◌∷◌, length-append}
use Rattle.crp_bounds.proofs.Bounding.{ahead_path, blocking_path}
use Rattle.crp_bounds.proofs.laws.paths_grow.Goals as goal

pub returns : goal.returns
returns c = record {
  blocking = λ p path row s t is a b. omega (arith, blocking_path p path row s t is a b, length-append path (row ∷ []));
  look_ahead = λ p path row s t is a b. omega (arith, ahead_path p path row s t is a b, length-append path (row ∷ []));
}
