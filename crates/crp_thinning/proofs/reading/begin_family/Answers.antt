use Rattle.std.proofs.Common.{sym, subst, ap, length, arith}
use Rattle.std.specs.List.{AllByRecursion}
use Rattle.crp_chains.proofs.Families.{zeros}
use Rattle.crp_thinning.specs.OneChain.{IsRank}
use Rattle.crp_thinning.proofs.reading.begin_family.Goals as goal

pub returns-clause-seen : goal.returns-clause-seen
returns-clause-seen c x = zeros 256 x

pub returns-clause-fair : goal.returns-clause-fair
returns-clause-fair c = record {
  whole = subst (AllByRecursion IsRank) (sym c.new.ensures) tt;
  few = omega (arith, ap length c.new.ensures);
  begun = omega arith;
  once = λ x. omega (arith, zeros 256 x);
}
