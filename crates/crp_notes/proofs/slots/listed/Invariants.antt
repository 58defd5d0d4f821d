-- What is counted and kept so far.
use Rattle.std.proofs.Common.{◌≡◌, ◌≤◌, ℕ, List, length, map, filter, take}
use Rattle.std.specs.Prelude.{nat_lt}
use Rattle.std.specs.Str.{bytes_eq}
use Rattle.crp_notes.specs.Repeated.{times, each_once}
use Rattle.crp_notes.specs.Namings.{named, AreKept}
use Rattle.crp_notes.proofs.slots.listed.Given as goal

abbrev pub invariant-loop-naming : goal.invariant-loop-naming
invariant-loop-naming l =
    let so_far = filter (λ (slot : List ℕ). nat_lt 1 (times bytes_eq slot (map named l.namings))) (map named (take l.naming-index l.namings)) in
    (l.count ≤ l.naming-index) × (l.count ≡ length so_far) × AreKept (each_once bytes_eq so_far) l.kept.keys l.slots.items
