use Rattle.crp_json.proofs.OneJson as once
use Rattle.crp_json.proofs.laws.one_json.Goals as goal

pub returns : goal.returns
returns c = once.one_json
