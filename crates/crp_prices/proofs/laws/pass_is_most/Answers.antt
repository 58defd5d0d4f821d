use Rattle.crp_prices.proofs.Reading.{most as most_of_pass}
use Rattle.crp_prices.proofs.Complete.{jobs_are}
use Rattle.crp_prices.proofs.laws.pass_is_most.Goals as goal

pub returns : goal.returns
returns c = record { most = most_of_pass; jobs = jobs_are }
