use Rattle.std.proofs.Common.{◌≡◌, ◌∷◌, ◌++◌, [], ◌∙◌, ap, sym, subst, not, true, false, append-nil}
use Rattle.std.proofs.lemmas.List.{take_all}
use Rattle.crp_yard.specs.Inventory.{stands}
use Rattle.crp_order.specs.Sequenced.{AreSequenced}
use Rattle.crp_order.specs.OfBays.{other_bays, of_bays}
use Rattle.crp_order.proofs.ChosenSteps.{is_left, of-bays-more, sequenced-filter}
use Rattle.crp_order.proofs.choosing.of_bays.Goals as goal
use Rattle.crp_order.proofs.choosing.of_bays.Goals.{then-stays+in_ok-named+in_ok-push, else-stays}

pub loop-container-preserved : goal.loop-container-preserved
loop-container-preserved c =
    let names = c.args.names.now in
    let yard = c.args.yard.now in
    let x = c.container-item.result in
    let known : is_left names yard x ≡ c.stays.result = ap (is_left names yard) (sym c.bytes.ensures) ∙ sym c.stays.ensures in
    elim c.if-stays.branch [
      | then-stays+in_ok-named+in_ok-push w ↦
          ap (λ v. v.items) w.list-is ∙ w.in_ok-push.ensures.items ∙ ap (λ y. c.loop-container.list.items ++ y ∷ []) (w.in_ok-named.ensures ∙ w.bytes-then-stays.ensures)
          ∙ ap (λ l. l ++ x ∷ []) c.loop-container.invariant
          ∙ sym (of-bays-more names yard c.list-container-items.result.now c.loop-container.container-index x true c.loop-container-test.true c.container-item.is (known ∙ w.if-stays.true))
      | else-stays w ↦
          ap (λ v. v.items) w.list-is ∙ c.loop-container.invariant
          ∙ sym (of-bays-more names yard c.list-container-items.result.now c.loop-container.container-index x false c.loop-container-test.true c.container-item.is (known ∙ w.if-stays.false) ∙ append-nil _)
    ]

pub new-requires : goal.new-requires
new-requires c =
    let all = take_all c.loop-container.container-index c.list-container-items.result.now c.loop-container-test.false in
    let e = c.loop-container.invariant ∙ ap (of_bays c.args.names.now c.args.yard.now) (all ∙ c.list-container-items.ensures.value) in
    subst AreSequenced (sym e) (sequenced-filter (is_left c.args.names.now c.args.yard.now) c.args.sequence.now c.list-container-items.ensures.sequenced)
