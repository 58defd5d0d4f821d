use Rattle.crp_json.proofs.Chained.{after, closed}
use Rattle.crp_json.proofs.check_objects.push_bounds.Goals as goal

pub returns : goal.returns
returns c =
    let start = c.args.out.now in
    let opened = c.in_ok-begin_object.ensures in
    let a = after start c.begin_object.new.self c.push_bay.new.out _ _ (opened.room.0, opened.ok) c.in_ok-push_bay.ensures in
    let b = after start c.push_bay.new.out c.push_number.new.out _ _ a c.in_ok-push_number.ensures in
    let d = after start c.push_number.new.out c.push_number-2.new.out _ _ b c.in_ok-push_number-2.ensures in
    let e = after start c.push_number-2.new.out c.push_chain_member.new.out _ _ d c.in_ok-push_chain_member.ensures in
    closed c.end_object.result start c.push_chain_member.new.out c.end_object.new.self _ _ e c.end_object.ensures
