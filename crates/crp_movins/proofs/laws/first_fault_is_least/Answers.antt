use Rattle.crp_movins.proofs.Least.{first-least, faultless-before}
use Rattle.crp_movins.proofs.laws.first_fault_is_least.Goals as goal

pub returns : goal.returns
returns c = record { faulty = first-least; faultless = faultless-before }
