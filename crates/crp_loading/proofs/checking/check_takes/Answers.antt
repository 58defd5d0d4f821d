use Rattle.std.proofs.Common.{◌≡◌, ◌∙◌, List, [], map, ap, inr, subst, sym}
use Rattle.std.proofs.lemmas.Result.{IfErr-weaker, on_ok_weaker}
use Rattle.crp_follow.specs.declared.followed.FollowedBay.{FollowedBay}
use Rattle.crp_follow.specs.Views.{bay_followed}
use Rattle.crp_loading.specs.declared.fault.LoadingFault.{LoadingFault}
use Rattle.crp_loading.specs.Faults.{faults_of, IsFirst}
use Rattle.crp_loading.specs.Turns.{ShipOrder}
use Rattle.crp_loading.proofs.checking.check_takes.Goals as goal

-- the faults of the bays by the order of the ship
abbrev faults : ShipOrder → List FollowedBay → List LoadingFault
faults ship bays = faults_of ship.sequence (map bay_followed bays)

pub returns-clause-right : goal.returns-clause-right
returns-clause-right c =
    let same = ap (λ s. faults s c.deref.result.now) c.in_ok-ship.ensures
    ∙ ap (faults (record { sequence = c.args.sequence.now; orders = c.args.orders.now.list; heading = c.args.orders.now.heading })) c.deref.ensures.value in
    on_ok_weaker c.check_bays.result (λ none. sym same ∙ none) c.check_bays.ensures.right

pub returns-clause-wrong : goal.returns-clause-wrong
returns-clause-wrong c =
    let same = ap (λ s. faults s c.deref.result.now) c.in_ok-ship.ensures
    ∙ ap (faults (record { sequence = c.args.sequence.now; orders = c.args.orders.now.list; heading = c.args.orders.now.heading })) c.deref.ensures.value in
    IfErr-weaker c.check_bays.result _ _ (λ fault first. inr (subst (λ (l : List LoadingFault). IsFirst l fault) same first)) c.check_bays.ensures.wrong
