use Rattle.std.proofs.Common.{◌≡◌, ◌∷◌, ◌++◌, [], ◌+◌, ◌∙◌, ap, sym, true, false, decimal}
use Rattle.std.specs.Prelude.{unwrap_or, filter, slice_get}
use Rattle.csv.specs.Writing.{default_writer, row_text}
use Rattle.crp_yard.specs.Inventory.{stands}
use Rattle.crp_order.specs.SlotDigits.{slot_text}
use Rattle.crp_order.specs.Absences.{fields_of}
use Rattle.crp_order.specs.Alike.{are_alike, like_in}
use Rattle.crp_order.specs.Groups.{pointed}
use Rattle.crp_order.proofs.AbsentSteps.{absent-more, present-more}
use Rattle.crp_order.proofs.absences.absent_list.Goals as goal
use Rattle.crp_order.proofs.absences.absent_list.Goals.{then-not-holds+in_ok-like+in_ok-list-2, else-not-holds}

pub loop-i-preserved : goal.loop-i-preserved
loop-i-preserved c =
    let x = c.index-orders-i.result in
    let yard = c.args.yard.now in
    elim c.if-not-holds.branch [
      | then-not-holds+in_ok-like+in_ok-list-2 w ↦
          let absent : stands yard.bays x.container ≡ false = ap (stands yard.bays) (sym c.bytes-name.ensures) ∙ sym c.holds.ensures ∙ w.if-not-holds.true in
          let like = w.in_ok-like.ensures
          ∙ ap (λ l. slice_get (filter (are_alike c.bytes-name.result.now) l) 0) (ap pointed w.deref.ensures.value ∙ c.in_ok-containers.ensures)
          ∙ ap (like_in yard.bays) c.bytes-name.ensures in
          let pushed = w.in_ok-list-2.ensures
          ∙ ap (λ l. c.loop-i.list ++ row_text default_writer (x.container ∷ decimal (c.loop-i.i + 1) ∷ slot_text x.slot ∷ unwrap_or l [] ∷ [])) like
          ∙ ap (λ l. l ++ row_text default_writer (fields_of yard (c.loop-i.i + 1, x))) c.loop-i.invariant in
          w.list-is ∙ absent-more yard c.args.orders.now c.loop-i.i x w.in_ok-list-2.list c.loop-i-test.true c.index-orders-i.is absent pushed
      | else-not-holds w ↦
          let present : stands yard.bays x.container ≡ true = ap (stands yard.bays) (sym c.bytes-name.ensures) ∙ sym c.holds.ensures ∙ w.if-not-holds.false in
          w.list-is ∙ present-more yard c.args.orders.now c.loop-i.i x c.loop-i.list c.loop-i-test.true c.index-orders-i.is present c.loop-i.invariant
    ]
