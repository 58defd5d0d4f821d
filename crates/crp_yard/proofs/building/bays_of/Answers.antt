use Rattle.std.proofs.Common.{◌≡◌, true, false, is_some, sym, refl, ◌∙◌}
use Rattle.std.specs.Map.{lookup}
use Rattle.indexmap.specs.IndexMap.{insert_entry}
use Rattle.crp_plan.specs.BayNames.{same_bay}
use Rattle.crp_sizes.specs.Sizes.{heights_at}
use Rattle.crp_yard.specs.Records.{Entry}
use Rattle.crp_yard.specs.Inventory.{StackedBay, stacks_up_to}
use Rattle.std.specs.Prelude.{List, length}
use Rattle.crp_yard.proofs.BuildingSteps.{bays-kept, bays-added}
use Rattle.crp_yard.proofs.building.bays_of.Goals as goal
use Rattle.crp_yard.proofs.building.bays_of.Goals.{then-not-contains_key+in_ok-stacks+in_ok-insert+in-Some-1, then-not-contains_key+in_ok-stacks+in_ok-insert+in-None-1, else-not-contains_key}

pub loop-i-preserved : goal.loop-i-preserved
loop-i-preserved c =
    let entry : Entry = (c.place.result.now, c.place.ensures.0) in
    let sizes = c.args.sizes.now in
    let added = λ (new : List StackedBay) (absent : is_some (lookup (same_bay entry.0.bay) c.loop-i.bays.entries) ≡ false) (e : new ≡ insert_entry same_bay c.loop-i.bays.entries entry.0.bay (stacks_up_to c.args.listing.now entry.0.bay (heights_at sizes entry.0.bay) (length (heights_at sizes entry.0.bay)))).
    bays-added sizes c.args.listing.now c.loop-i.i entry c.place.ensures.1 c.loop-i.bays new c.loop-i.invariant absent e in
    elim c.if-not-contains_key.branch [
      | then-not-contains_key+in_ok-stacks+in_ok-insert+in-Some-1 w ↦
          let absent : is_some (lookup (same_bay c.bay-bay.result.now) c.loop-i.bays.entries) ≡ false = sym w.if-not-contains_key.ensures in
          rw w.bays-is (added w.insert.new.self.entries (rw c.bay-bay.ensures at absent) (w.in_ok-insert.ensures.entries ∙ rw (w.copy.ensures, w.in_ok-stacks.ensures, w.heights_at.ensures.value, c.bay-bay.ensures) refl))
      | then-not-contains_key+in_ok-stacks+in_ok-insert+in-None-1 w ↦
          let absent : is_some (lookup (same_bay c.bay-bay.result.now) c.loop-i.bays.entries) ≡ false = sym w.if-not-contains_key.ensures in
          rw w.bays-is (added w.insert.new.self.entries (rw c.bay-bay.ensures at absent) (w.in_ok-insert.ensures.entries ∙ rw (w.copy.ensures, w.in_ok-stacks.ensures, w.heights_at.ensures.value, c.bay-bay.ensures) refl))
      | else-not-contains_key w ↦
          let there : is_some (lookup (same_bay c.bay-bay.result.now) c.loop-i.bays.entries) ≡ true = sym w.if-not-contains_key.ensures in
          rw w.bays-is (bays-kept sizes c.args.listing.now c.loop-i.i entry c.place.ensures.1 c.loop-i.bays.entries c.loop-i.invariant (rw c.bay-bay.ensures at there))
    ]
