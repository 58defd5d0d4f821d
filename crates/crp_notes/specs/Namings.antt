-- Sets of slots that are named. Only the clauses of private functions speak of it.
use Rattle.std.specs.Prelude.{◌≡◌, ℕ, nat_lt, List, map}
use Rattle.std.specs.List.{list_any}
use Rattle.std.specs.Str.{bytes_eq}
use denote.Ref.{Bor}
use Rattle.crp_notes.specs.declared.naming.Naming.{Naming}
use Rattle.crp_notes.specs.declared.naming.Placed.{Placed}
use Rattle.crp_notes.specs.Repeated.{times}

-- the slot
abbrev pub named : Naming → List ℕ
named n = n.slot.items

-- the slot and the container
abbrev pub container_placed : Placed → List ℕ × List ℕ
container_placed p = (p.slot.items, p.container.now)

-- the set has those that are there more than so many times, and no others
abbrev pub HasNamed : ℕ → List (Bor Naming) → List Naming → Type 0
HasNamed n keys namings = (a : Bor Naming) → list_any (λ k. bytes_eq (named a.now) (named k.now)) keys ≡ nat_lt n (times bytes_eq (named a.now) (map named namings))

-- the set has these slots, and so has the list
abbrev pub AreKept : List (List ℕ) → List (Bor Naming) → List (Bor (List ℕ)) → Type 0
AreKept kept keys slots =
    ((a : Bor Naming) → list_any (λ k. bytes_eq (named a.now) (named k.now)) keys ≡ list_any (bytes_eq (named a.now)) kept)
    × (map (λ slot. slot.now) slots ≡ kept)
