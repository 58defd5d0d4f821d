-- The names that parts give to each other: where they balance, no two parts have one name.
use Rattle.std.proofs.Common.{◌≡◌, ℕ, zero, suc, ◌+◌, ◌≤◌, ⊎_elim, List, [], ◌∷◌, map, All, Some, slice_get, refl, sym, ap, ◌∙◌, subst, arith}
use Rattle.std.specs.List.{flat_map}
use Rattle.std.proofs.lemmas.List.Elements.{All-head, All-tail}
use Rattle.std.proofs.lemmas.List.Sums.{sum_by-cons}
use Rattle.std.proofs.lemmas.Option.{same_Some}
use Rattle.std.proofs.lemmas.Bool.{cases_Bool, cases_lt}
use Rattle.crp_plan.specs.Bay.{Problem, IsProblem}
use Rattle.crp_plan.proofs.Lists.{one_if}
use Rattle.crp_tree.specs.Names.{Precedes}
use Rattle.crp_tree.specs.Trees.{nodes, given_names}
use Rattle.crp_tree.specs.Claims.{Part, IsPart, same_name, times, names, given_by}
use Rattle.crp_tree.proofs.Accepted.{nodes_are}
use Rattle.crp_tree.proofs.Nodes.{given_begins, given_longer, given_apart, given_rise}
use Rattle.crp_tree.proofs.InLine.{InOrder, in_order}
use Rattle.crp_tree.proofs.Ordered.{not_itself}
use Rattle.crp_tree.proofs.Givers.{Giver, IsGiver, IsFamily, name_times, given_times, times-cons, times-append, times_in, same_is, each_once}

-- in names that rise none stands twice
once : (g : List ℕ) (list : List (List ℕ)) → InOrder Precedes list → times g list ≤ 1
once g [] up = omega arith
once g (x ∷ xs) up = ⊎_elim
    (λ t. ⊎_elim
    (λ more. absurd (not_itself g (subst (λ l. Precedes l g) (sym (same_is g x t)) (up.0 g (times_in g xs more)))))
    (λ none. omega (arith, times-cons g x xs, ap one_if t))
    (cases_lt 0 (times g xs)))
    (λ f. omega (arith, times-cons g x xs, ap one_if f, once g xs up.1))
    (cases_Bool (same_name g x))

-- so a part is a giver
pub part_gives : (p : Problem) (part : Part) → IsProblem p → IsPart p part → IsGiver (record { name = part.name; given = given_by p part })
part_gives p part ok is =
    let shape = is.shape in
    let list = nodes part.name is.place part.tree in
    subst (λ l. IsGiver (record { name = part.name; given = given_names l })) (sym (nodes_are p part is.place ok is.is_at)) (record {
      begins = λ g c. given_begins part.name is.place part.tree g c;
      longer = λ g c. given_longer part.name is.place part.tree g shape.not_given c;
      apart = λ g h c d b. given_apart part.name is.place part.tree g h c d b;
      once = λ g. once g (given_names list) (in_order Precedes (given_names list) (given_rise part.name is.place part.tree));
    })

-- parts as givers: their names, and the names that they give
abbrev pub givers : Problem → List Part → List Giver
givers p parts = map (λ part. record { name = part.name; given = given_by p part }) parts

-- each of them is one
givers_each : (p : Problem) (parts : List Part) → IsProblem p → All (IsPart p) parts → (i : ℕ) (a : Giver) → slice_get (givers p parts) i ≡ Some a → IsGiver a
givers_each p [] ok all i a e = cc
givers_each p (part ∷ parts) ok all zero a e = subst IsGiver (same_Some _ a e) (part_gives p part ok (All-head (IsPart p) part parts all))
givers_each p (part ∷ parts) ok all (suc i) a e = givers_each p parts ok (All-tail (IsPart p) part parts all) i a e

-- their names are the names of the parts
name_times_is : (p : Problem) (parts : List Part) (x : List ℕ) → name_times x (givers p parts) ≡ times x (names parts)
name_times_is p [] x = refl
name_times_is p (part ∷ parts) x =
    sum_by-cons (λ (a : Giver). one_if (same_name x a.name)) (record { name = part.name; given = given_by p part }) (givers p parts) ∙ ap (λ n. one_if (same_name x part.name) + n) (name_times_is p parts x) ∙ sym (times-cons x part.name (names parts))

-- and the names that they give are those that the parts give
given_times_is : (p : Problem) (parts : List Part) (x : List ℕ) → given_times x (givers p parts) ≡ times x (flat_map (given_by p) parts)
given_times_is p [] x = refl
given_times_is p (part ∷ parts) x =
    sum_by-cons (λ (a : Giver). times x a.given) (record { name = part.name; given = given_by p part }) (givers p parts) ∙ ap (λ n. times x (given_by p part) + n) (given_times_is p parts x) ∙ sym (times-append x (given_by p part) (flat_map (given_by p) parts))

-- so no two parts have one name, where the names balance
pub no_name_twice : (p : Problem) (parts : List Part) → IsProblem p → All (IsPart p) parts → ((name : List ℕ) → times name (names parts) ≡ times name ([] ∷ flat_map (given_by p) parts)) →
    (name : List ℕ) → times name (names parts) ≤ 1
no_name_twice p parts ok all balance name =
    let family : IsFamily (givers p parts) = record {
      each = givers_each p parts ok all;
      balance = λ x. name_times_is p parts x ∙ balance x ∙ times-cons x [] (flat_map (given_by p) parts) ∙ ap (λ n. one_if (same_name x []) + n) (sym (given_times_is p parts x));
    } in
    let r = each_once (givers p parts) family name in
    omega (arith, name_times_is p parts name)
