use Rattle.std.proofs.Common.{rules, append_assoc}
use Rattle.crp_json.proofs.check_objects.push_shown.Goals as goal

pub returns : goal.returns
returns c = search (rules, append_assoc)
