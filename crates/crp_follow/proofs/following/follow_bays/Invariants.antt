-- The bays so far are followed.
use Rattle.std.proofs.Common.{◌≡◌, map}
use Rattle.std.specs.List.{AllByRecursion}
use Rattle.crp_follow.specs.Followed.{AreFollowed}
use Rattle.crp_follow.specs.Table.{StandFew}
use Rattle.crp_follow.specs.Views.{bay_stated, bay_followed}
use Rattle.crp_follow.proofs.FollowSteps.{before_are}
use Rattle.crp_follow.proofs.following.follow_bays.Given as goal

abbrev pub invariant-loop-stated : goal.invariant-loop-stated
invariant-loop-stated l = record {
  can : (goal.iterator-loop-stated).can_next l.stated-iterator;
  ends : (goal.iterator-loop-stated).is_finite l.stated-iterator;
  so : AreFollowed l.yard (map bay_stated l.yielded) (map bay_followed l.followed.items);
  names : l.before.keys ≡ map (λ b. b.bay) (before_are l.followed.items);
  few : AllByRecursion StandFew (map bay_followed l.followed.items);
}
