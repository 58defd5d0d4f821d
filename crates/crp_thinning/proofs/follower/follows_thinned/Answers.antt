use Rattle.std.proofs.Common.{[], IsTrue}
use Rattle.std.proofs.lemmas.Bool.{both_ways}
use Rattle.crp_thinning.specs.Owed.{Takes}
use Rattle.crp_thinning.specs.Symbols.{Closes}
use Rattle.crp_thinning.proofs.Following.{both, whole, none_whole}
use Rattle.crp_thinning.proofs.follower.follows_thinned.Goals as goal

pub returns-then-follow_all : goal.returns-then-follow_all
returns-then-follow_all c =
    both (IsTrue c.is_done.result) (Takes c.follow_all.new.self []) (Closes c.args.place.place c.args.need c.args.symbols.now) c.is_done.ensures
    (whole c.new-follower.result c.follow_all.new.self c.args.place.place c.args.need c.args.symbols.now c.new-follower.ensures c.follow_all.ensures.takes)

pub returns-else-follow_all : goal.returns-else-follow_all
returns-else-follow_all c = (
  λ t. absurd (both_ways c.follow_all.result c.if-follow_all.false t),
  λ k. absurd (none_whole c.new-follower.result c.follow_all.new.self c.args.place.place c.args.need c.args.symbols.now c.new-follower.ensures c.follow_all.ensures.takes c.if-follow_all.ensures.refused k),
)
