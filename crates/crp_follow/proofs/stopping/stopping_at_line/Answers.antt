use Rattle.std.proofs.Common.{◌≡◌, ◌∙◌, Some, List, length, map, refl, sym, ap}
use Rattle.std.specs.Prelude.{option_map, slice_get}
use Rattle.std.proofs.lemmas.Option.{slice_get-map, slice_get_read}
use Rattle.crp_follow.specs.declared.stated.StatedBay.{StatedBay}
use Rattle.crp_follow.specs.Views.{bay_stated}
use Rattle.crp_follow.proofs.StoppingSteps.{where_some}
use Rattle.crp_follow.proofs.stopping.stopping_at_line.Goals as goal

pub returns-in-Some : goal.returns-in-Some
returns-in-Some c =
    let bays = c.in-Ok.bays.items in
    let i = c.loop-bay.bay-index in
    let bay = c.bay-item.result in
    let slice = c.as_slice-bay-items.ensures.value in
    let read = slice_get_read c.as_slice-bay-items.result.now (length c.as_slice-bay-items.result.now) i bay refl c.loop-bay-test.true c.bay-item.is in
    let there : slice_get bays i ≡ Some bay = ap (λ (l : List StatedBay). slice_get l i) (sym slice) ∙ read in
    where_some c.stopping_at.result _ _ c.stopping_at.ensures (λ s before. record {
      numbers = c.in-Ok.numbers;
      bays = map bay_stated bays;
      number = i;
      bay = bay_stated bay;
      states = c.in-Ok.ensures.stated;
      there = slice_get-map bay_stated bays i ∙ ap (option_map bay_stated) there;
      before = before;
    })
