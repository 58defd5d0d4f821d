-- The bays so far.
use Rattle.std.proofs.Common.{◌≡◌, Bor, List, ℕ, map, take}
use Rattle.std.specs.List.{AllByRecursion}
use Rattle.crp_plan.specs.BayNames.{IsYardBay}
use Rattle.crp_words.specs.Words.{bay_name}
use Rattle.crp_words.proofs.bays.bays_of.Given as goal

abbrev pub invariant-loop-text : goal.invariant-loop-text
invariant-loop-text l = AllByRecursion IsYardBay l.bays.items × (map bay_name l.bays.items ≡ map (λ (v : Bor (List ℕ)). v.now) (take l.text-index l.texts))
