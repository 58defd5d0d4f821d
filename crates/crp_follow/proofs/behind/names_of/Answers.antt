use Rattle.std.proofs.Common.{length, refl}
use Rattle.std.proofs.lemmas.Option.{slice_get_read}
use Rattle.crp_follow.specs.declared.followed.FollowedBay.{FollowedBay}
use Rattle.crp_follow.proofs.Named.{new_name, one_name_more}
use Rattle.crp_follow.proofs.behind.names_of.Goals as goal

pub add_name-requires : goal.add_name-requires
add_name-requires c =
    let bays = c.args.bays.now in
    let at = slice_get_read bays (length bays) c.loop-bay.bay-index c.bay-item.result refl c.loop-bay-test.true c.bay-item.is in
    new_name (λ (b : FollowedBay). b.stated.bay) bays c.loop-bay.bay-index c.bay-item.result c.loop-bay.names.keys c.requires at c.loop-bay.invariant

pub loop-bay-preserved : goal.loop-bay-preserved
loop-bay-preserved c =
    let bays = c.args.bays.now in
    let at = slice_get_read bays (length bays) c.loop-bay.bay-index c.bay-item.result refl c.loop-bay-test.true c.bay-item.is in
    one_name_more (λ (b : FollowedBay). b.stated.bay) bays c.loop-bay.bay-index c.bay-item.result c.loop-bay.names.keys c.add_name.new.names.keys at c.loop-bay.invariant c.in_ok-add_name.ensures
