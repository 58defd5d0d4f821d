use Rattle.crp_checker.proofs.Meaning.{says_from}
use Rattle.crp_checker.proofs.laws.verdicts_say.Goals as goal

pub returns : goal.returns
returns c = says_from
