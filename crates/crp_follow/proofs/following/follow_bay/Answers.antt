use Rattle.std.proofs.Common.{◌∙◌}
use Rattle.crp_follow.proofs.Few.{few_stand}
use Rattle.crp_follow.proofs.following.follow_bay.Goals as goal

pub returns-clause-few : goal.returns-clause-few
returns-clause-few c =
    few_stand c.args.yard.now c.args.stated.bay c.in_ok-start.start.items c.heights.ensures.yard (c.in-Some.ensures.there.2 ∙ c.in_ok-start.ensures)
