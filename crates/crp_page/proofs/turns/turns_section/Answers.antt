use Rattle.std.proofs.Common.{◌∙◌, map, ap, refl}
use Rattle.crp_follow.specs.Views.{bay_followed}
use Rattle.crp_loading.specs.Loading.{records_of}
use Rattle.crp_loading.specs.Views.{recorded}
use Rattle.crp_page.proofs.turns.turns_section.Goals as goal

pub returns : goal.returns
returns c =
    let ship = c.args.ship.now in
    let records = records_of ship.sequence ship.orders (map bay_followed c.args.bays.now) in
    rw (
      c.in_ok-push_turns_body.ensures records (ap (map recorded) c.deref.ensures.value ∙ c.in_ok-moves.ensures),
      c.in_ok-push_turns_head.ensures,
      c.new-text.ensures.items,
      c.sequence.ensures.value,
    )
    refl
