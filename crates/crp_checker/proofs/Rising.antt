-- Names that rise, and one that comes after all of them.
use Rattle.std.proofs.Common.{◌≡◌, ℕ, ◌-◌, List, [], ◌∷◌, length, get_or, All, AllPairs, Some, ⊎_elim, sym, ap, ◌∙◌, subst, arith}
use Rattle.std.specs.Prelude.{slice_get}
use Rattle.std.specs.List.{AllByRecursion}
use Rattle.std.proofs.lemmas.Bool.{cases_eq}
use Rattle.std.proofs.lemmas.Option.{slice_get_within, get_or_from_slice_get}
use Rattle.std.proofs.lemmas.List.Elements.{All-from_recursion, recursion_from_All}
use Rattle.crp_tree.specs.Names.{Precedes}
use Rattle.crp_tree.specs.Claims.{Part, names}
use Rattle.crp_tree.proofs.Ordered.{goes_further}
use Rattle.crp_cert.specs.ScriptFaults.{ComesAfter}

-- a name that comes after the last comes after all
pub after_last : (list : List (List ℕ)) (last name : List ℕ) → AllPairs Precedes list → slice_get list (length list - 1) ≡ Some last → Precedes last name → All (λ other. Precedes other name) list
after_last list last name rising e p k d lt = ⊎_elim
    (λ same. subst (λ other. Precedes other name) (sym (ap (λ i. get_or list i d) same ∙ get_or_from_slice_get list (length list - 1) last d e)) p)
    (λ ne. goes_further (get_or list k d) last name (subst (Precedes (get_or list k d)) (get_or_from_slice_get list (length list - 1) last d e) (rising k (length list - 1) d (omega arith) (omega arith))) p)
    (cases_eq k (length list - 1))

-- and one that comes after all comes after the last
pub before_last : (list : List (List ℕ)) (last name : List ℕ) → slice_get list (length list - 1) ≡ Some last → All (λ other. Precedes other name) list → Precedes last name
before_last list last name e after =
    subst (λ other. Precedes other name) (get_or_from_slice_get list (length list - 1) last last e) (after (length list - 1) last (slice_get_within list (length list - 1) last e))

-- to come after parts is to come after their names
pub comes_after : (parts : List Part) (name : List ℕ) → All (λ other. Precedes other name) (names parts) → ComesAfter parts name
comes_after parts name all = All-from_recursion (λ part. Precedes part.name name) parts (each parts (recursion_from_All (λ other. Precedes other name) (names parts) all))
  where
    each : (parts : List Part) → AllByRecursion (λ other. Precedes other name) (names parts) → AllByRecursion (λ part. Precedes part.name name) parts
    each [] all = tt
    each (part ∷ parts) all = (all.0, each parts all.1)

pub after_names : (parts : List Part) (name : List ℕ) → ComesAfter parts name → All (λ other. Precedes other name) (names parts)
after_names parts name all = All-from_recursion (λ other. Precedes other name) (names parts) (each parts (recursion_from_All (λ part. Precedes part.name name) parts all))
  where
    each : (parts : List Part) → AllByRecursion (λ part. Precedes part.name name) parts → AllByRecursion (λ other. Precedes other name) (names parts)
    each [] all = tt
    each (part ∷ parts) all = (all.0, each parts all.1)
