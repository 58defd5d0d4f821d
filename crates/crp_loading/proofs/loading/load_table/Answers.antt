use Rattle.std.proofs.Common.{◌≡◌, ◌∙◌, List, length, map, ap}
use Rattle.std.proofs.lemmas.Result.{IfOk-weaker}
use Rattle.crp_follow.specs.declared.followed.FollowedBay.{FollowedBay}
use Rattle.crp_follow.specs.Views.{bay_followed}
use Rattle.crp_loading.specs.Turns.{ShipOrder}
use Rattle.crp_loading.specs.Loading.{records_of, by_turns}
use Rattle.crp_loading.specs.Views.{recorded, text_of}
use Rattle.crp_loading.proofs.loading.load_table.Goals as goal

pub returns : goal.returns
returns c =
    let sorted = λ (s : ShipOrder) (l : List FollowedBay). by_turns (length s.sequence) (records_of s.sequence s.orders (map bay_followed l)) in
    let moves = ap (λ l. text_of (map recorded l)) c.deref-2.ensures.value
    ∙ ap text_of (c.in_ok-moves.ensures ∙ ap (λ s. sorted s c.deref.result.now) c.in_ok-ship.ensures
    ∙ ap (sorted (record { sequence = c.args.sequence.now; orders = c.args.orders.now.list; heading = c.args.orders.now.heading })) c.deref.ensures.value) in
    IfOk-weaker c.text_of.result _ _ (λ text made. made ∙ moves) c.text_of.ensures
