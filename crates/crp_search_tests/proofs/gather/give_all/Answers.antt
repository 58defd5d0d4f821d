use Rattle.std.proofs.Common.{◌≡◌, ℕ, zero, suc, ◌≤◌, List, [], ◌∷◌, ◌++◌, length, replicate, refl, sym, ap, ◌∙◌, subst, arith}
use Rattle.crp_plan.specs.Bay.{Position}
use Rattle.crp_bay.specs.Back.{PlaceAndTrail}
use Rattle.crp_row.specs.Symbol.{Symbol}
use Rattle.crp_row.specs.Symbol as symbol
use Rattle.crp_tree.specs.Tree.{Tree, Branch, Given, row}
use Rattle.crp_tree.specs.Symbols.{symbols, symbols_of_each, items_row, all_symbols}
use Rattle.crp_tree.proofs.Paying.{row_symbols}
use Rattle.crp_tree.proofs.Parsed.{alone}
use Rattle.crp_gather.proofs.Worked.{GivesAll, gives_all}
use Rattle.crp_search_tests.proofs.gather.give_all.Goals as goal
use Rattle.crp_search_tests.proofs.gather.give_all.Goals.{After-cap}

all_given : (n : ℕ) → all_symbols (replicate n Given) ≡ replicate n symbol.Given
all_given zero = refl
all_given (suc n) = ap (λ l. symbol.Given ∷ l) (all_given n)

as_many : (n : ℕ) → length (replicate n Given) ≡ n
as_many zero = refl
as_many (suc n) = ap suc (as_many n)

-- the symbols of a branch that gives all of its subtrees away
given_symbols : (n : ℕ) → symbols (Branch (row (replicate n Given))) ≡ symbol.Branch n ∷ replicate n symbol.Given
given_symbols n =
    ap (λ m. symbol.Branch m ∷ symbols_of_each (row (replicate n Given))) (ap length (items_row (replicate n Given)) ∙ as_many n) ∙ ap (λ l. symbol.Branch n ∷ l) (row_symbols (replicate n Given) ∙ all_given n)

-- so they make it
given_tree : (list : List Symbol) (tree : Tree) (n : ℕ) → list ≡ symbol.Branch n ∷ replicate n symbol.Given → list ≡ symbols tree → Branch (row (replicate n Given)) ≡ tree
given_tree list tree n is e = sym (alone (Branch (row (replicate n Given))) list (is ∙ sym (given_symbols n))).is ∙ (alone tree list e).is

pub loop-init : goal.loop-init
loop-init c = c.in_ok-push.ensures.symbols ∙ ap (λ l. l ++ symbol.Branch c.len.result ∷ []) c.new-row.ensures ∙ ap (λ n. symbol.Branch n ∷ []) (c.len.ensures.value ∙ sym c.len-end.ensures.value)

pub from_row-tree-requires : goal.from_row-tree-requires
from_row-tree-requires c =
    let n : ℕ = c.len-end.result in
    let all : c.loop.counter ≡ n = let most = c.loop.auto.counter-end in let least = c.loop-test.false in omega arith in
    (Branch (row (replicate n Given)), c.loop.invariant ∙ ap (λ k. symbol.Branch n ∷ replicate k symbol.Given) all ∙ sym (given_symbols n))

given_away : (c : After-cap) → GivesAll c.args.problem.now c.root.result c.from_row-tree.result c.cap.result
given_away c =
    let s : Position = c.start-place.result.place in
    let goes : s.next ≤ s.ordered = omega arith in
    let n : ℕ = c.len-end.result in
    let all : c.loop.counter ≡ n = let most = c.loop.auto.counter-end in let least = c.loop-test.false in omega arith in
    let tree : Branch (row (replicate n Given)) ≡ c.from_row-tree.result = given_tree c.loop.row.symbols c.from_row-tree.result n (c.loop.invariant ∙ ap (λ k. symbol.Branch n ∷ replicate k symbol.Given) all) c.from_row-tree.ensures in
    subst (λ t. GivesAll c.args.problem.now c.root.result t c.cap.result) tree
    (gives_all c.args.problem.now c.root.result (replicate n Given) s c.targets-targets.result.items c.cap.result c.cap.ensures.problem c.root.ensures (ap (λ (v : PlaceAndTrail). v.place) c.start-place.ensures.value) goes c.targets-targets.ensures.value
    (ap (λ k. replicate k Given) c.len-end.ensures.value) c.cap.ensures.value)

pub new-requires-clause-part : goal.new-requires-clause-part
new-requires-clause-part c = let all = given_away c in all.is_part

pub new-requires-clause-floor : goal.new-requires-clause-floor
new-requires-clause-floor c = let all = given_away c in all.floor_is
