-- How many containers stand in the bays of a report.
use Rattle.std.specs.Prelude.{◌≤◌}
use Rattle.crp_follow.specs.Table.{standing}
use Rattle.crp_follow.specs.Followed.{BayFollowed}

-- no more containers are left in it than a bay of a yard can have
abbrev pub LeaveFew : BayFollowed → Type 0
LeaveFew b = standing b.after ≤ 96
