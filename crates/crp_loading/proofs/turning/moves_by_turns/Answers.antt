use Rattle.std.proofs.Common.{◌≡◌, ◌∙◌, List, length, map, sym, ap, subst}
use Rattle.std.specs.Prelude.{IfOk}
use Rattle.crp_follow.specs.Table.{columns_of}
use Rattle.crp_follow.specs.Views.{bay_followed}
use Rattle.crp_loading.specs.Loading.{TurnRecord, records_of, by_turns}
use Rattle.crp_loading.specs.Views.{recorded, AreTurns}
use Rattle.crp_loading.proofs.RecordSteps.{are_turns}
use Rattle.crp_loading.proofs.turning.moves_by_turns.Goals as goal

pub by_turns-requires-clause-turns : goal.by_turns-requires-clause-turns
by_turns-requires-clause-turns c =
    let ship = c.args.ship.now in
    subst (λ s. AreTurns (length s) (map recorded c.in_ok-records.records.items)) (sym c.sequence.ensures.value)
    (subst (λ r. AreTurns (length ship.sequence) r) (sym c.in_ok-records.ensures) (are_turns ship.sequence ship.orders (columns_of (map bay_followed c.args.bays.now))))

pub returns : goal.returns
returns c =
    let ship = c.args.ship.now in
    let same = ap (by_turns (length c.sequence.result.now)) c.in_ok-records.ensures
    ∙ ap (λ s. by_turns (length s) (records_of ship.sequence ship.orders (map bay_followed c.args.bays.now))) c.sequence.ensures.value in
    subst (λ (r : List TurnRecord). IfOk c.by_turns.result (λ sorted. map recorded sorted.items ≡ r)) same c.by_turns.ensures
