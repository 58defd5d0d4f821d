use Rattle.std.proofs.Common.{◌≡◌, ◌≤◌, ◌<◌, ◌-◌, ◌∙◌, List, ℕ, length, slice_get, Some, refl, sym, ap, subst, arith}
use Rattle.std.specs.Prelude.{IfSome, option_map}
use Rattle.std.proofs.lemmas.Option.{slice_get_read}
use Rattle.crp_sizes.specs.Sizes.{heights_at}
use Rattle.crp_yard.specs.Inventory.{Inventory, StackedBay, heights_in_bay, stack_in_bay}
use Rattle.crp_yard.proofs.YardSteps.{fit_at, fit_rows, stack_there}
use Rattle.crp_yard.proofs.yard.Yard.stack.Goals as goal

abbrev few_rows : (bay : StackedBay) (yard : Inventory) (i row : ℕ) → Some bay ≡ slice_get yard.bays i → IfSome (heights_in_bay yard i) (λ heights. row ≤ length heights) → row ≤ length (heights_at yard.sizes bay.0)
few_rows bay yard i row at there = subst (λ o. IfSome (option_map (heights_at yard.sizes) (option_map (λ (b : StackedBay). b.0) o)) (λ (heights : List ℕ). row ≤ length heights)) (sym at) there

pub bounds-rows-row : goal.bounds-rows-row
bounds-rows-row c =
    let inside : Inventory = record { sizes = c.self.inside.sizes; bays = c.self.inside.bays.entries } in
    let bay : StackedBay = (c.in-Some.field-0-0.now, c.in-Some.stacks.now) in
    let fit = fit_at inside.sizes inside.bays c.args.bay bay c.self.invariant.sound.bays_fit c.in-Some.ensures.entry in
    let there = few_rows bay inside c.args.bay c.args.row c.in-Some.ensures.entry (subst (λ (y : Inventory). IfSome (heights_in_bay y c.args.bay) (λ heights. c.args.row ≤ length heights)) (sym c.self.view_is) c.requires.there) in
    omega (arith, there, c.requires.counts, ap length c.rows.ensures, fit_rows (heights_at inside.sizes bay.0) c.in-Some.stacks.now fit)

pub returns : goal.returns
returns c =
    let inside : Inventory = record { sizes = c.self.inside.sizes; bays = c.self.inside.bays.entries } in
    let bay : StackedBay = (c.in-Some.field-0-0.now, c.in-Some.stacks.now) in
    let fit = fit_at inside.sizes inside.bays c.args.bay bay c.self.invariant.sound.bays_fit c.in-Some.ensures.entry in
    let there = few_rows bay inside c.args.bay c.args.row c.in-Some.ensures.entry (subst (λ (y : Inventory). IfSome (heights_in_bay y c.args.bay) (λ heights. c.args.row ≤ length heights)) (sym c.self.view_is) c.requires.there) in
    let low : c.args.row - 1 < length c.rows.result.now = omega (arith, there, c.requires.counts, ap length c.rows.ensures, fit_rows (heights_at inside.sizes bay.0) c.in-Some.stacks.now fit) in
    let read = slice_get_read c.rows.result.now (length c.rows.result.now) (c.args.row - 1) c.index-rows-row.result refl low c.index-rows-row.is in
    ap (λ (y : Inventory). stack_in_bay y c.args.bay c.args.row) (sym c.self.view_is)
    ∙ stack_there inside c.args.bay c.args.row bay c.list.result.now c.in-Some.ensures.entry
    (ap (λ rows. slice_get rows (c.args.row - 1)) (sym c.rows.ensures) ∙ read ∙ ap Some (sym c.list.ensures))
