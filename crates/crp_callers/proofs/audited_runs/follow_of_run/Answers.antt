use Rattle.std.proofs.Common.{◌≡◌, ℕ, List, Some, false, map, sym, subst}
use Rattle.std.specs.List.{AllByRecursion}
use Rattle.crp_plan.specs.BayNames.{YardBay}
use Rattle.crp_yard.specs.Inventory.{Inventory}
use Rattle.crp_follow.specs.Faults.{rows_in, is_named}
use Rattle.crp_follow.specs.Followed.{BayFollowed, IsFollowed}
use Rattle.crp_report.specs.Runs.{numbers_of}
use Rattle.crp_callers.proofs.Outcomes.{ok_by, both_by}
use Rattle.crp_callers.proofs.FollowedOnce.{same_bays}
use Rattle.crp_callers.proofs.audited_runs.follow_of_run.Goals as goal

pub returns : goal.returns
returns c = λ chosen seen made is yard report.
    let (after, leads, text) = c.runs_are_followed.ensures.followed chosen seen made is in
    both_by c.follow.result _ _
    (ok_by c.follow.result _ _ c.follow.ensures.followed (λ followed at.
    let same = same_bays c.one_outcome.ensures.one c.args.yard.now made.yard c.args.report.now made.report _ _ _ leads.bays yard report at leads.followed in
    let others = subst (λ (y : Inventory). (bay : YardBay) → is_named (map (λ (b : BayFollowed). b.stated) leads.bays) bay ≡ false → rows_in after bay ≡ rows_in y bay)
    (sym yard) leads.others in
    let there = subst (λ (bs : List BayFollowed). AllByRecursion (λ b. rows_in after b.stated.bay ≡ Some b.after) bs
    × ((bay : YardBay) → is_named (map (λ (b : BayFollowed). b.stated) bs) bay ≡ false → rows_in after bay ≡ rows_in c.args.yard.now bay)) same (leads.ends, others) in
    (after, text, there.0, there.1)))
    (c.follow.ensures.accepts _ leads.bays (subst (λ (y : Inventory). IsFollowed y c.args.report.now (numbers_of made.yard made.orders made.sequence) leads.bays) (sym yard)
    (subst (λ (t : List ℕ). IsFollowed made.yard t (numbers_of made.yard made.orders made.sequence) leads.bays) (sym report) leads.followed)))
