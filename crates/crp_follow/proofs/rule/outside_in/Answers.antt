use Rattle.std.proofs.Common.{◌≡◌, ◌∙◌, ℕ, ◌+◌, ◌<◌, List, [], ◌∷◌, ◌++◌, length, map, take, get_or, sym, ap}
use Rattle.std.specs.List.{filter_map}
use Rattle.std.proofs.lemmas.List.{map-append, take_more}
use Rattle.std.proofs.lemmas.List.Elements.{filter_map-append}
use Rattle.crp_follow.specs.declared.rule.OutsideMove.{OutsideMove}
use Rattle.crp_follow.specs.declared.stated.StatedBay.{StatedBay}
use Rattle.crp_follow.specs.Rule.{outside_in}
use Rattle.crp_follow.specs.Views.{bay_stated}
use Rattle.crp_follow.proofs.rule.outside_in.Goals as goal

one_more : (bays : List StatedBay) (i : ℕ) (b : StatedBay) (old new : List OutsideMove) → i < length bays → b ≡ get_or bays i b → old ≡ filter_map outside_in (map bay_stated (take i bays))
    → new ≡ old ++ filter_map outside_in (bay_stated b ∷ []) → new ≡ filter_map outside_in (map bay_stated (take (i + 1) bays))
one_more bays i b old new lt at before longer =
    let front = map bay_stated (take i bays) in
    let more : map bay_stated (take (i + 1) bays) ≡ front ++ bay_stated b ∷ [] =
    ap (map bay_stated) (take_more bays i b lt ∙ ap (λ x. take i bays ++ x ∷ []) (sym at)) ∙ map-append bay_stated (take i bays) (b ∷ []) in
    longer ∙ ap (λ l. l ++ filter_map outside_in (bay_stated b ∷ [])) before ∙ sym (filter_map-append outside_in front (bay_stated b ∷ [])) ∙ ap (filter_map outside_in) (sym more)

pub loop-bay-preserved : goal.loop-bay-preserved
loop-bay-preserved c =
    one_more c.args.bays.now c.loop-bay.bay-index c.bay-item.result c.loop-bay.found.items c.add_outside.new.found.items c.loop-bay-test.true c.bay-item.is c.loop-bay.invariant c.in_ok-add_outside.ensures
