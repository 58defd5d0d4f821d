use Rattle.std.proofs.Common.{arith}
use Rattle.std.proofs.Math.Nat.{mul-one}
use Rattle.crp_prices.proofs.Bounding.{taken_same, keeps_shifted}
use Rattle.crp_prices.proofs.laws.prices_fall_slowly.Goals as goal

pub returns : goal.returns
returns c = record {
  taken = taken_same;
  shifted = λ price unit s mosts from to t sound a k.
      let r = keeps_shifted price unit s mosts from to t sound a k in
      (r.after, r.are, omega (arith, r.units, mul-one unit), r.rounded);
}
