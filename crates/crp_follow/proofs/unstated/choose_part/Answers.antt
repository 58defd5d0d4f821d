use Rattle.std.proofs.Common.{◌≡◌, ◌∙◌, List, map, rules, ap, subst, sym}
use Rattle.std.specs.List.{filter, AllByRecursion}
use Rattle.std.proofs.lemmas.Fn.{filter_same}
use Rattle.crp_follow.specs.declared.followed.FollowedBay.{FollowedBay}
use Rattle.crp_follow.specs.Followed.{BayFollowed, AreFollowed}
use Rattle.crp_follow.specs.Parts.{NamedPart, is_in_part}
use Rattle.crp_follow.specs.Stated.{BayStated}
use Rattle.crp_follow.specs.Table.{StandFew}
use Rattle.crp_follow.specs.Unstated.{bays_of_part}
use Rattle.crp_follow.specs.Views.{bay_followed}
use Rattle.crp_follow.proofs.PartSteps.{seen_filtered, all_filtered, part_followed}
use Rattle.crp_follow.proofs.unstated.choose_part.Goals as goal

seen_part : (part : NamedPart) (old new : List FollowedBay) → new ≡ filter (λ b. is_in_part part b.stated.bay) old → map bay_followed new ≡ bays_of_part part (map bay_followed old)
seen_part part old new e = ap (map bay_followed) e ∙ seen_filtered bay_followed (λ b. is_in_part part b.stated.bay) old

pub returns-clause-bays : goal.returns-clause-bays
returns-clause-bays c =
    seen_part c.args.part.now c.args.followed.bays.items c.retain.new.self.items
    (filter_same _ (λ b. is_in_part c.args.part.now b.stated.bay) _ (λ x b f' k. search rules) _ _ c.retain.ensures.filtered)

pub returns-clause-followed : goal.returns-clause-followed
returns-clause-followed c yard stated are =
    let bays : map bay_followed c.retain.new.self.items ≡ bays_of_part c.args.part.now (map bay_followed c.args.followed.bays.items) =
    seen_part c.args.part.now c.args.followed.bays.items c.retain.new.self.items
    (filter_same _ (λ b. is_in_part c.args.part.now b.stated.bay) _ (λ x b f' k. search rules) _ _ c.retain.ensures.filtered) in
    subst (λ (l : List BayFollowed). (left : List BayStated) × AreFollowed yard left l) (sym bays) (part_followed yard stated (map bay_followed c.args.followed.bays.items) (λ b. is_in_part c.args.part.now b.stated.bay) are)

pub returns-clause-few : goal.returns-clause-few
returns-clause-few c few =
    let bays : map bay_followed c.retain.new.self.items ≡ bays_of_part c.args.part.now (map bay_followed c.args.followed.bays.items) =
    seen_part c.args.part.now c.args.followed.bays.items c.retain.new.self.items
    (filter_same _ (λ b. is_in_part c.args.part.now b.stated.bay) _ (λ x b f' k. search rules) _ _ c.retain.ensures.filtered) in
    subst (AllByRecursion StandFew) (sym bays) (all_filtered StandFew (λ b. is_in_part c.args.part.now b.stated.bay) (map bay_followed c.args.followed.bays.items) few)
