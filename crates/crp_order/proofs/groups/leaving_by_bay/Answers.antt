use Rattle.std.proofs.Common.{◌≡◌, ◌<◌, ◌∙◌, ap, sym, arith, length, map, Some, None, Option, ℕ, List, [], ◌∷◌, ◌++◌, set, slice_get, Vec, Global}
use denote.Ref.{Bor}
use Rattle.crp_yard.specs.Inventory.{StackedBay, is_among}
use Rattle.crp_order.specs.BayProblems.{standing}
use Rattle.std.proofs.lemmas.List.{length-map}
use Rattle.std.proofs.lemmas.Option.{MatchOption-at_some, slice_get_within}
use Rattle.crp_order.specs.Groups.{pointed, kept_of, is_index}
use Rattle.crp_order.proofs.GroupSteps.{groups-none, groups-pass, groups-join, group_found, group_pushed, groups_set}
use Rattle.crp_order.proofs.groups.leaving_by_bay.Goals as goal
use Rattle.crp_order.proofs.groups.leaving_by_bay.Goals.{in-Some+in_ok-push, in_default}

pub loop-container-init : goal.loop-container-init
loop-container-init c = groups-none c.args.yard.now.bays _ c.count.result c.count.ensures.value c.in_ok-groups.ensures

pub index_mut-requires : goal.index_mut-requires
index_mut-requires c =
    let low : c.in-Some.bay.now < length c.args.yard.now.bays =
    MatchOption-at_some (Unit {0}) (λ i. i < length c.args.yard.now.bays) c.in-Some.bay.now (sym c.in-Some.ensures.value) (c.in_ok-bays.ensures.number_is_low c.bytes.result) in
    omega (arith, low, c.loop-container.invariant.one_for_each, length-map c.loop-container.groups.items (λ group. pointed group.items))

pub loop-container-preserved : goal.loop-container-preserved
loop-container-preserved c =
    let x = c.container-item.result in
    let groups = map (λ (group : Vec (Bor (List ℕ)) Global). pointed group.items) c.loop-container.groups.items in
    let which : (found : Option ℕ) → kept_of c.in_ok-bays.bays.entries c.bytes.result.now ≡ found → (j : ℕ) (bay : StackedBay) → slice_get c.args.yard.now.bays j ≡ Some bay
    → is_among (standing bay.1) x ≡ is_index found j =
    λ found e j bay at.
    ap (is_among (standing bay.1)) (sym c.bytes.ensures) ∙ c.in_ok-bays.ensures.standing_there c.bytes.result j bay (slice_get_within c.args.yard.now.bays j bay at) at
    ∙ ap (λ f. is_index f j) e in
    elim c.match-get.branch [
      | in-Some+in_ok-push w ↦
          let k = w.in-Some.bay.now in
          let group = pointed w.index_mut.result.now.items in
          let low : k < length c.args.yard.now.bays = MatchOption-at_some (Unit {0}) (λ i. i < length c.args.yard.now.bays) k (sym w.in-Some.ensures.value) (c.in_ok-bays.ensures.number_is_low c.bytes.result) in
          let found : slice_get groups k ≡ Some group =
          group_found c.loop-container.groups.items k w.index_mut.result.now
          (omega (arith, low, c.loop-container.invariant.one_for_each, length-map c.loop-container.groups.items (λ g. pointed g.items))) w.index_mut.ensures.value in
          let pushed : pointed w.push.new.self.items ≡ group ++ x ∷ [] = group_pushed w.index_mut.result.now.items w.push.new.self.items w.bytes-in-Some.result x w.in_ok-push.ensures.items w.bytes-in-Some.ensures in
          let new : map (λ (g : Vec (Bor (List ℕ)) Global). pointed g.items) c.match-get.groups.items ≡ set groups k (group ++ x ∷ []) =
          ap (λ v. map (λ (g : Vec (Bor (List ℕ)) Global). pointed g.items) v.items) w.groups-is ∙ groups_set c.loop-container.groups.items k w.push.new.self (group ++ x ∷ []) pushed in
          rw new (groups-join c.list-container-items.result.now c.args.yard.now.bays groups c.loop-container.container-index x k group c.loop-container-test.true c.container-item.is
          c.loop-container.invariant (which (Some k) (sym w.in-Some.ensures.value)) found)
      | in_default w ↦
          rw w.groups-is (groups-pass c.list-container-items.result.now c.args.yard.now.bays groups c.loop-container.container-index x c.loop-container-test.true c.container-item.is
          c.loop-container.invariant (which None (sym w.in_default.ensures.value)))
    ]
