-- A family is the one that its ranks name.
use Rattle.std.proofs.Common.{◌≡◌, ℕ, ◌≤◌, true, ◌==◌, List, [], ◌∷◌, ◌++◌, map, slice_get, refl, ap, ◌∙◌, ⊎_elim, arith}
use Rattle.std.specs.List.{AllByRecursion}
use Rattle.std.proofs.lemmas.Option.{get_or_from_slice_get}
use Rattle.std.proofs.lemmas.Bool.{cases_lt, or_cases, or_left, or_right, eqb-true, eq-eqb}
use Rattle.crp_plan.specs.Rows.{holds, occurrences, below}
use Rattle.crp_plan.specs.Bay.{Position}
use Rattle.crp_plan.proofs.Lists.{times_held}
use Rattle.crp_bay.specs.Positions.{place, stack_at}
use Rattle.crp_bay.proofs.Walked.{is_place}
use Rattle.crp_chains.specs.declared.blocker.Blocker.{Blocker}
use Rattle.crp_chains.specs.Chains.{StandsOn, IsBlocker, IsChain, ranks_of}
use Rattle.crp_chains.specs.Named.{least_of, turn_of, family_of}
use Rattle.crp_chains.proofs.Blockers.{holds_own, stands_below}

-- the least is at most each
least_le : (ordered x : ℕ) (xs : List ℕ) → holds x xs ≡ true → least_of ordered xs ≤ x
least_le ordered x [] h = cc
least_le ordered x (y ∷ xs) h = ⊎_elim
    (λ e. let same : y ≡ x = eqb-true y x e in omega arith)
    (λ e. let r = least_le ordered x xs e in omega arith)
    (or_cases (y == x) (holds x xs) h)

-- and one of them, where it is ordered
least_held : (ordered k : ℕ) (xs : List ℕ) → least_of ordered xs ≡ k → k ≤ ordered → holds k xs ≡ true
least_held ordered k [] e le = absurd (omega arith)
least_held ordered k (y ∷ xs) e le = ⊎_elim
    (λ lt. or_left (y == k) (holds k xs) (eq-eqb y k (omega arith)))
    (λ ge. or_right (y == k) (holds k xs) (least_held ordered k xs (omega arith) le))
    (cases_lt y (least_of ordered xs))

-- the turn of a container that blocks
turn_is : (s : Position) (b : Blocker) → occurrences b.rank s.stacks ≤ 1 → IsBlocker s b → b.turn ≡ turn_of s b.rank
turn_is s b once i =
    let st : StandsOn s.stacks i.beneath b.rank = i.stands in
    let whole : List ℕ = i.beneath ++ b.rank ∷ st.over in
    let held : holds b.rank whole ≡ true = holds_own i.beneath b.rank st.over in
    let at_row : place b.rank s.stacks ≡ st.row = is_place b.rank s.stacks st.row whole once st.stands (times_held b.rank whole held) in
    let own : stack_at s (place b.rank s.stacks) ≡ whole = get_or_from_slice_get s.stacks (place b.rank s.stacks) whole [] (ap (slice_get s.stacks) at_row ∙ st.stands) in
    let under : below b.rank whole ≡ i.beneath = stands_below s.stacks i.beneath b.rank st.row whole once i.stands st.stands held in
    let is : turn_of s b.rank ≡ least_of s.ordered i.beneath = ap (λ l. least_of s.ordered (below b.rank l)) own ∙ ap (least_of s.ordered) under in
    let le : least_of s.ordered i.beneath ≤ b.turn = least_le s.ordered b.turn i.beneath i.turn_stands in
    let lo : b.turn ≤ s.ordered = i.is_ordered in
    let in_it : holds (least_of s.ordered i.beneath) i.beneath ≡ true = least_held s.ordered (least_of s.ordered i.beneath) i.beneath refl (omega arith) in
    let ge : b.turn ≤ least_of s.ordered i.beneath = i.least (least_of s.ordered i.beneath) (omega arith) in_it in
    omega (arith, is)

chain_named : (s : Position) (chain : List Blocker) → ((x : ℕ) → occurrences x s.stacks ≤ 1) → AllByRecursion (IsBlocker s) chain → chain ≡ map (λ x. record { rank = x; turn = turn_of s x }) (ranks_of chain)
chain_named s [] once a = refl
chain_named s (b ∷ chain) once a =
    ap (λ t. record { rank = b.rank; turn = t } ∷ chain) (turn_is s b (once b.rank) a.0) ∙ ap (λ l. record { rank = b.rank; turn = turn_of s b.rank } ∷ l) (chain_named s chain once a.1)

pub family_named : (s : Position) (family : List (List Blocker)) → ((x : ℕ) → occurrences x s.stacks ≤ 1) → AllByRecursion (IsChain s) family → family ≡ family_of s (map ranks_of family)
family_named s [] once a = refl
family_named s (chain ∷ family) once a =
    let c : IsChain s chain = a.0 in
    ap (λ z. z ∷ family) (chain_named s chain once c.blockers) ∙ ap (λ l. map (λ x. record { rank = x; turn = turn_of s x }) (ranks_of chain) ∷ l) (family_named s family once a.1)

-- and the family that ranks name has these ranks
chain_ranks : (s : Position) (ranks : List ℕ) → ranks_of (map (λ x. record { rank = x; turn = turn_of s x }) ranks) ≡ ranks
chain_ranks s [] = refl
chain_ranks s (x ∷ ranks) = ap (λ l. x ∷ l) (chain_ranks s ranks)

pub family_ranks : (s : Position) (lists : List (List ℕ)) → map ranks_of (family_of s lists) ≡ lists
family_ranks s [] = refl
family_ranks s (ranks ∷ lists) = ap (λ z. z ∷ map ranks_of (family_of s lists)) (chain_ranks s ranks) ∙ ap (λ l. ranks ∷ l) (family_ranks s lists)
