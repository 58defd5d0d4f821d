use Rattle.std.proofs.Common.{ℕ, List, sym, subst}
use Rattle.std.specs.List.{AllZip}
use Rattle.crp_yard.specs.Inventory.{Inventory}
use Rattle.crp_follow.specs.Followed.{BayFollowed, IsFollowed}
use Rattle.crp_audit.specs.Headline.{numbers_in}
use Rattle.crp_planned.specs.Ends.{EndsAsPrinted}
use Rattle.crp_callers.proofs.Outcomes.{ok_by, both_by}
use Rattle.crp_callers.proofs.FollowedOnce.{same_bays}
use Rattle.crp_callers.proofs.audited_runs.follow_of_headline.Goals as goal

pub returns : goal.returns
returns c = λ sizes loading names list message mode h is listed ordered sequenced yard report.
    let (bays, followed, ends) = c.headlines_are_followed.ensures.followed sizes loading names list message mode h is listed ordered sequenced in
    both_by c.follow.result _ _
    (ok_by c.follow.result _ _ c.follow.ensures.followed (λ made at.
    let same = same_bays c.one_outcome.ensures.one c.args.yard.now h.yard c.args.report.now h.report _ _ _ bays yard report at followed in
    subst (λ (bs : List BayFollowed). AllZip (EndsAsPrinted h) is.bays bs) same ends))
    (c.follow.ensures.accepts _ bays (subst (λ (y : Inventory). IsFollowed y c.args.report.now (numbers_in h) bays) (sym yard)
    (subst (λ (t : List ℕ). IsFollowed h.yard t (numbers_in h) bays) (sym report) followed)))
