use Rattle.std.proofs.Common.{◌≡◌, ℕ, ◌+◌, ◌&&◌, ◌||◌, not, nat_le, nat_lt, Bool, false, refl, ⊎_elim, List, [], ◌∷◌, ◌++◌, take, get_or, sym, ap, ◌∙◌, arith}
use Rattle.std.proofs.lemmas.Bool.{cases_Bool}
use Rattle.std.proofs.lemmas.List.{take_more}
use Rattle.std.proofs.lemmas.List.Folds.{list_any-append}
use Rattle.crp_plan.proofs.Lists.{one_if}
use Rattle.crp_bounds.specs.Bounds.{holds_lower}
use Rattle.crp_bounds.specs.Leasts.{least_ordered}
use Rattle.crp_thinned.specs.Hindering.{hindered}
use Rattle.crp_thinned.proofs.Beside.{hindered_push}
use Rattle.crp_thinning.proofs.hindering.hindered_in.Goals as goal
use Rattle.crp_thinning.proofs.hindering.hindered_in.Goals.{then-misses, else-misses}

or_nothing : (b : Bool) → (b || false) ≡ b
or_nothing b = ⊎_elim (λ t. rw t refl) (λ f. rw f refl) (cases_Bool b)

lower_more : (ordered x : ℕ) (xs : List ℕ) (y : ℕ) → holds_lower ordered x (xs ++ y ∷ []) ≡ (holds_lower ordered x xs || (nat_le y ordered && nat_lt y x))
lower_more ordered x xs y = list_any-append (λ d. nat_le d ordered && nat_lt d x) xs (y ∷ []) ∙ ap (λ b. holds_lower ordered x xs || b) (or_nothing (nat_le y ordered && nat_lt y x))

pub loop-i-preserved : goal.loop-i-preserved
loop-i-preserved c =
    let xs : List ℕ = take c.loop-i.i c.args.stack.now in
    let y : ℕ = get_or c.args.stack.now c.loop-i.i 0 in
    let inv = c.loop-i.invariant in let few = inv.few in
    let on : take (c.loop-i.i + 1) c.args.stack.now ≡ xs ++ y ∷ [] = take_more c.args.stack.now c.loop-i.i 0 c.loop-i-test.true in
    let more = λ (onto : List ℕ). ap (hindered c.args.ordered c.args.rank onto []) on in
    let push = λ (onto : List ℕ). hindered_push c.args.ordered c.args.rank onto [] xs y in
    let test = λ (onto : List ℕ) (is : c.args.least ≡ least_ordered c.args.ordered onto). ap one_if (c.misses.ensures c.args.ordered onto is ∙ ap (λ (b : Bool). nat_lt c.args.rank y && (b && not (holds_lower c.args.ordered y onto))) inv.lower) in
    let lower = c.or_lower-lower.ensures ∙ ap (λ (b : Bool). b || (nat_le y c.args.ordered && nat_lt y c.args.rank)) inv.lower ∙ sym (lower_more c.args.ordered c.args.rank xs y) ∙ sym (ap (holds_lower c.args.ordered c.args.rank) on) in
    elim c.if-misses.branch [
      | then-misses w ↦ record { value = λ onto is. omega (arith, more onto, push onto, test onto is, w.count-is, inv.value onto is, ap one_if w.if-misses.true); few = omega (arith, w.count-is, few); lower = lower }
      | else-misses w ↦ record { value = λ onto is. omega (arith, more onto, push onto, test onto is, w.count-is, inv.value onto is, ap one_if w.if-misses.false); few = omega (arith, w.count-is, few); lower = lower }
    ]
