-- A family of chains that was found, and what it shows.
use Rattle.std.specs.Prelude.{◌≡◌, ℕ, ◌+◌, List, map}
use Rattle.crp_plan.specs.Bay.{Position}
use Rattle.crp_bounds.specs.Bounds.{blocking}
use Rattle.crp_chains.specs.declared.blocker.Blocker.{Blocker}
use Rattle.crp_chains.specs.Chains.{IsFamily, ranks_of, gain}

-- the chains of these ranks are a family at the position, and this is the blocking bound with what it gains
abbrev pub ShowsBound : Position → List (List ℕ) → ℕ → Type 0
ShowsBound s lists bound =
    (chains : List (List Blocker)) × (map ranks_of chains ≡ lists) × IsFamily s chains × (bound ≡ blocking s + gain s chains)
