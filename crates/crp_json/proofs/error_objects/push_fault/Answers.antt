use Rattle.crp_json.proofs.Chained.{ended}
use Rattle.crp_json.proofs.error_objects.push_fault.Goals as goal

pub returns : goal.returns
returns c =
    ended c.push_code.result c.args.out.now c.push_bytes.new.out c.push_code.new.out _ _ c.in_ok-push_bytes.ensures c.push_code.ensures
