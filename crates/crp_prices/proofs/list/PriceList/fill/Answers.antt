use Rattle.std.proofs.Common.{◌≡◌, ◌++◌, ◌∷◌, [], List, append_assoc, rules, subst, ap, ◌∙◌}
use Rattle.crp_prices.specs.declared.list.Priced.{Priced}
use Rattle.crp_prices.specs.PriceLists.{IsPriced, AreListed}
use Rattle.crp_prices.proofs.Listed.{listed_each}
use Rattle.crp_prices.proofs.list.PriceList.fill.Goals as goal

-- the last of what is left may be listed
left_priced : (all rest front done : List Priced) (last : Priced) → AreListed all → all ≡ rest ++ done → rest ≡ front ++ last ∷ [] → IsPriced last
left_priced all rest front done last listed are left = listed_each front last done (subst AreListed (are ∙ ap (λ l. l ++ done) left ∙ append_assoc front (last ∷ []) done) listed)

pub loop-last-init : goal.loop-last-init
loop-last-init c = record { set = record { done = []; all_are = search rules; prices = c.clear.ensures } }

pub set-requires-clause-rank : goal.set-requires-clause-rank
set-requires-clause-rank c = let s = c.loop-last.invariant.set in
    let is = left_priced c.args.self.now c.loop-last.rest.now c.in-Some.front.now s.done c.in-Some.last.now c.entries-rest.ensures.listed s.all_are c.in-Some.ensures.cases.0 in is.rank

pub set-requires-clause-turn : goal.set-requires-clause-turn
set-requires-clause-turn c = let s = c.loop-last.invariant.set in
    let is = left_priced c.args.self.now c.loop-last.rest.now c.in-Some.front.now s.done c.in-Some.last.now c.entries-rest.ensures.listed s.all_are c.in-Some.ensures.cases.0 in is.turn

pub set-requires-clause-price : goal.set-requires-clause-price
set-requires-clause-price c = let s = c.loop-last.invariant.set in
    let is = left_priced c.args.self.now c.loop-last.rest.now c.in-Some.front.now s.done c.in-Some.last.now c.entries-rest.ensures.listed s.all_are c.in-Some.ensures.cases.0 in is.few
