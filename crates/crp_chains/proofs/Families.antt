-- Families by the lists of their ranks.
use Rattle.std.proofs.Common.{◌≡◌, ℕ, zero, suc, ◌+◌, ◌<◌, ◌≤◌, List, [], ◌∷◌, ◌++◌, length, map, take, get_or, replicate, refl, sym, ap, ◌∙◌, ⊎_elim, arith}
use Rattle.std.specs.List.{AllByRecursion}
use Rattle.std.proofs.lemmas.Bool.{cases_lt}
use Rattle.std.proofs.lemmas.List.{take_more, get_or-map, get_or-replicate, length-replicate}
use Rattle.std.proofs.lemmas.List.Sums.{sum_by_push}
use Rattle.arrayvec.specs.ArrayVec.{ArrayVec}
use Rattle.crp_plan.specs.Rows.{occurrences}
use Rattle.crp_plan.specs.Bay.{Position}
use Rattle.crp_plan.proofs.Lists.{times, occurrences-cons}
use Rattle.crp_bounds.proofs.Scanned.{beyond}
use Rattle.crp_chains.specs.declared.blocker.Blocker.{Blocker}
use Rattle.crp_chains.specs.Chains.{IsChain, IsFamily, ranks_of, chain_gain, gain}
use Rattle.crp_chains.specs.Given.{lists_of}

-- lists of ranks, one by one
pub occurrences_more : (x : ℕ) (lists : List (List ℕ)) (i : ℕ) → i < length lists → occurrences x (take (i + 1) lists) ≡ occurrences x (take i lists) + times x (get_or lists i [])
occurrences_more x lists i lt = ap (occurrences x) (take_more lists i [] lt) ∙ sum_by_push (times x) (take i lists) (get_or lists i [])

pub occurrences_take : (x n : ℕ) (lists : List (List ℕ)) → occurrences x (take n lists) ≤ occurrences x lists
occurrences_take x zero lists = omega arith
occurrences_take x (suc n) [] = omega arith
occurrences_take x (suc n) (y ∷ lists) = omega (arith, occurrences-cons x y (take n lists), occurrences-cons x y lists, occurrences_take x n lists)

-- one chain more
pub chains_more : (s : Position) (chains : List (List Blocker)) (chain : List Blocker) → gain s (chains ++ chain ∷ []) ≡ gain s chains + chain_gain s chain
chains_more s chains chain = sum_by_push (chain_gain s) chains chain

pub lists_push : (chains : List (List Blocker)) (chain : List Blocker) → map ranks_of (chains ++ chain ∷ []) ≡ map ranks_of chains ++ ranks_of chain ∷ []
lists_push [] chain = refl
lists_push (c ∷ chains) chain = ap (λ l. ranks_of c ∷ l) (lists_push chains chain)

-- a chain by its place
pub chain_at : (P : List Blocker → Type 0) (chains : List (List Blocker)) (i : ℕ) → i < length (map ranks_of chains) → AllByRecursion P chains →
    (chain : List Blocker) × (ranks_of chain ≡ get_or (map ranks_of chains) i []) × P chain
chain_at P [] i lt a = absurd (omega arith)
chain_at P (c ∷ chains) zero lt a = (c, refl, a.0)
chain_at P (c ∷ chains) (suc i) lt a = chain_at P chains i (omega arith) a.1

-- lists of which one makes no chain make no family
pub family_refused : (s : Position) (lists : List (List ℕ)) (i : ℕ) → i < length lists → ((chain : List Blocker) → ranks_of chain ≡ get_or lists i [] → IsChain s chain → ⊥) →
    (chains : List (List Blocker)) → map ranks_of chains ≡ lists → IsFamily s chains → ⊥
family_refused s lists i lt no_one chains e f =
    let m = chain_at (IsChain s) chains i (omega (arith, ap length e)) f.chains in
    no_one m.0 (m.1 ∙ ap (λ l. get_or l i []) e) m.2

-- nor do lists with a common rank
pub family_apart : (s : Position) (lists : List (List ℕ)) (i x : ℕ) → i < length lists → 2 ≤ occurrences x (take i lists) + times x (get_or lists i []) →
    (chains : List (List Blocker)) → map ranks_of chains ≡ lists → IsFamily s chains → ⊥
family_apart s lists i x lt two chains e f =
    omega (arith, two, occurrences_more x lists i lt, occurrences_take x (i + 1) lists, ap (occurrences x) e, f.apart x)

-- an array of zeros
pub zeros : (n x : ℕ) → ◌≡◌ {A = ℕ} (get_or (replicate n 0) x 0) 0
zeros n x = ⊎_elim
    (λ lt. get_or-replicate n x 0 0 lt)
    (λ ge. let none : List ℕ = replicate n 0 in beyond none x 0 (omega (arith, length-replicate {A = ℕ} n 0)))
    (cases_lt x n)

-- a list by its place
pub list_at : (family : List (ArrayVec ℕ)) (i : ℕ) (ranks : ArrayVec ℕ) → i < length family → ranks ≡ get_or family i ranks → get_or (lists_of family) i [] ≡ ranks.items
list_at family i ranks lt e = get_or-map (λ (r : ArrayVec ℕ). r.items) family i ranks [] lt ∙ ap (λ (r : ArrayVec ℕ). r.items) (sym e)

-- chains of ranks that are counted once each
pub family_made : (s : Position) (seen : List ℕ) (lists : List (List ℕ)) (chains : List (List Blocker)) → map ranks_of chains ≡ lists → AllByRecursion (IsChain s) chains →
    ((x : ℕ) → get_or seen x 0 ≡ occurrences x lists) → ((x : ℕ) → get_or seen x 0 ≤ 1) → IsFamily s chains
family_made s seen lists chains e each counted few = record { chains = each; apart = λ x. omega (arith, ap (occurrences x) e, counted x, few x) }
