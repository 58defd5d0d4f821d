use Rattle.crp_yard.proofs.Least.{first-least, faultless-up_to}
use Rattle.crp_yard.proofs.laws.first_fault_is_least.Goals as goal

pub returns : goal.returns
returns c = record { faulty = first-least; faultless = faultless-up_to }
