-- Where a container may be put so that it hinders nobody.
use Rattle.std.specs.Prelude.{ℕ, ◌+◌, Bool, not, ◌&&◌, nat_le, nat_lt, if◌then◌else◌, List, [], ◌∷◌, ◌++◌, length, sum_by}
use Rattle.crp_bounds.specs.Bounds.{holds_lower}

-- how many containers of a stack, where `under` stands below it, would miss `onto` if x stood there. Such a container y has to be relocated before x
-- leaves, since an ordered one below it leaves before x; it is well placed on `onto`, where no ordered one of a lower rank than y stands; and it is badly
-- placed on x, since x is lower
abbrev pub hindered : ℕ → ℕ → List ℕ → List ℕ → List ℕ → ℕ
hindered ordered x onto under [] = 0
hindered ordered x onto under (y ∷ stack) =
    (if nat_lt x y && (holds_lower ordered x under && not (holds_lower ordered y onto)) then 1 else 0) + hindered ordered x onto (under ++ y ∷ []) stack

-- how many containers of a stack, where `under` stands below it, block and have a lower rank than x: each may still come to stand on x
abbrev pub lower_blocking : ℕ → ℕ → List ℕ → List ℕ → ℕ
lower_blocking ordered x under [] = 0
lower_blocking ordered x under (y ∷ stack) = (if nat_lt y x && holds_lower ordered y under then 1 else 0) + lower_blocking ordered x (under ++ y ∷ []) stack

-- x, which is to leave, hinders nobody on the stack `onto`: none of the bay's stacks has a container that would miss it, and there is room for x and for
-- each that may come to stand on x
abbrev pub hinders_nobody : ℕ → ℕ → List (List ℕ) → ℕ → List ℕ → Bool
hinders_nobody ordered x stacks height onto =
    nat_le x ordered
    && (nat_le (sum_by (λ stack. hindered ordered x onto [] stack) stacks) 0
    && nat_le (length onto + 1 + sum_by (λ stack. lower_blocking ordered x [] stack) stacks) height)
