-- Parts in the order of their names that are accepted, and those that are not.
use Rattle.std.proofs.Common.{◌≡◌, ℕ, ◌<◌, ◌≤◌, ◌⊎◌, inl, ⊎_elim, ◌↔◌, List, [], ◌∷◌, length, take, get_or, All, Contains, refl, sym, ap, ◌∙◌, subst, arith}
use Rattle.std.specs.List.Sorted.{IsSorted}
use Rattle.std.proofs.lemmas.Bool.{cases_lt}
use Rattle.std.proofs.lemmas.List.{get_or-take, get_or-map, length-take-le, length-map}
use Rattle.std.proofs.lemmas.List.Elements.{All-contains, Contains-get_or}
use Rattle.crp_bay.proofs.Members.{not_in_nil}
use Rattle.crp_plan.specs.Bay.{Problem}
use Rattle.crp_tree.specs.Names.{Precedes, IsFirst}
use Rattle.crp_tree.specs.Claims.{times}
use Rattle.crp_tree.specs.Parts.{ProblemPart, names_of}
use Rattle.crp_tree.proofs.Lists.{from_map}
use Rattle.crp_tree.proofs.Givers.{times_in, in_times}
use Rattle.crp_gather.specs.Gathers.{Need, Belongs, AreWhole, IsDouble, IsGap, IsStranger, IsNever}
use Rattle.crp_tree.proofs.InOrder.{name_cmp, far}
use Rattle.crp_gather.proofs.InOrder.{part_name}
use Rattle.crp_gather.proofs.Moved.{first_same}

-- the first part that does not belong, of parts in order
pub stranger_first : (p : Problem) (xs : List ProblemPart) (i : ℕ) (part : ProblemPart) → IsSorted name_cmp (names_of xs) → All (Belongs p xs) (take i xs) → i < length xs → part ≡ get_or xs i part → (Belongs p xs part → ⊥) →
    IsFirst (IsStranger p xs) part.name
stranger_first p xs i part sorted before lt is strange = record {
  holds = record { part = part; stands = subst (Contains xs) (sym is) (Contains-get_or xs i part lt); named = refl; strange = strange };
  first = λ other s. first other s;
}
  where
    first : (other : List ℕ) → IsStranger p xs other → (other ≡ part.name) ⊎ Precedes part.name other
    first other s =
        let x : ProblemPart = s.part in
        let c : Contains xs x = s.stands in
        let k : ℕ = c.0 in
        let within = c.1 in
        ⊎_elim
        (λ (low : k < i).
        let in_front : k < length (take i xs) = rw (length-take-le i xs (omega arith)) low in
        let there : get_or (take i xs) k x ≡ x = get_or-take i xs k x low ∙ c.2 in
        absurd (s.strange (subst (Belongs p xs) there (before k x in_front))))
        (λ (high : i ≤ k).
        let r = far (names_of xs) sorted i k [] high (omega (arith, length-map xs part_name)) in
        let one : get_or (names_of xs) i [] ≡ part.name = get_or-map part_name xs i part [] lt ∙ ap part_name (sym is) in
        let two : get_or (names_of xs) k [] ≡ other = get_or-map part_name xs k x [] within ∙ ap part_name c.2 ∙ s.named in
        subst (λ a. (other ≡ a) ⊎ Precedes a other) one (subst (λ a. (a ≡ get_or (names_of xs) i []) ⊎ Precedes (get_or (names_of xs) i []) a) two r))
        (cases_lt k i)

-- no name is had twice
pub none_double : (xs : List ProblemPart) (ns : List (List ℕ)) → ns ≡ names_of xs → ((n : List ℕ) → times n ns ≤ 1) → IsNever (IsDouble xs)
none_double xs ns is once n more = omega (arith, once n, ap (times n) is)

-- no needed name is without a part
pub none_missing : (xs : List ProblemPart) (ns needed : List (List ℕ)) → ns ≡ names_of xs → ((n : List ℕ) → Contains needed n ↔ Need xs n) → All (Contains ns) needed → IsNever (IsGap xs)
none_missing xs ns needed is all held n m = m.1 (subst (λ l. Contains l n) is (All-contains (Contains ns) needed n held ((all n).1 m.0)))

-- the first gap
pub missing_first : (xs : List ProblemPart) (ns needed : List (List ℕ)) (name : List ℕ) → ns ≡ names_of xs → ((n : List ℕ) → Contains needed n ↔ Need xs n) →
    IsFirst (λ n. Contains needed n × (Contains ns n → ⊥)) name → IsFirst (IsGap xs) name
missing_first xs ns needed name is all f = first_same (λ n. Contains needed n × (Contains ns n → ⊥)) (IsGap xs) name
    (λ n m. ((all n).0 m.0, λ c. m.1 (subst (λ l. Contains l n) (sym is) c)))
    (λ n m. ((all n).1 m.0, λ c. m.1 (subst (λ l. Contains l n) is c)))
    f

-- parts that are not refused are a whole
pub whole_from : (p : Problem) (xs : List ProblemPart) → IsNever (IsDouble xs) → IsNever (IsGap xs) → All (Belongs p xs) xs → AreWhole p xs
whole_from p xs doubles gaps belong = record { belong = belong; each_one = λ n w. one n w }
  where
    one : (n : List ℕ) → Need xs n → times n (names_of xs) ≡ 1
    one n w = ⊎_elim
        (λ (low : times n (names_of xs) < 1). absurd (gaps n (w, λ c. omega (arith, in_times n (names_of xs) c))))
        (λ (high : 1 ≤ times n (names_of xs)). ⊎_elim
        (λ (more : 1 < times n (names_of xs)). absurd (doubles n (omega arith)))
        (λ (le : times n (names_of xs) ≤ 1). omega arith)
        (cases_lt 1 (times n (names_of xs))))
        (cases_lt (times n (names_of xs)) 1)

-- the name of a part of a whole is needed
pub named_wanted : (p : Problem) (xs : List ProblemPart) → AreWhole p xs → (n : List ℕ) → Contains (names_of xs) n → Need xs n
named_wanted p xs w n c =
    let r = from_map part_name xs n c in
    let b = All-contains (Belongs p xs) xs r.0 w.belong r.1 in
    subst (Need xs) r.2 b.1

-- no two parts of a whole have one name
pub whole_once : (p : Problem) (xs : List ProblemPart) → AreWhole p xs → (n : List ℕ) → times n (names_of xs) ≤ 1
whole_once p xs w n = ⊎_elim
    (λ (more : 1 < times n (names_of xs)). omega (arith, w.each_one n (named_wanted p xs w n (times_in n (names_of xs) (omega arith)))))
    (λ (le : times n (names_of xs) ≤ 1). le)
    (cases_lt 1 (times n (names_of xs)))

-- a needed name has a part in a whole
pub whole_has : (p : Problem) (xs : List ProblemPart) → AreWhole p xs → (n : List ℕ) → Need xs n → Contains (names_of xs) n
whole_has p xs w n wanted = times_in n (names_of xs) (omega (arith, w.each_one n wanted))

-- a whole has a part
pub whole_some : (p : Problem) (xs : List ProblemPart) → AreWhole p xs → 0 < length xs
whole_some p [] w = absurd (not_in_nil [] (whole_has p [] w [] (inl refl)))
whole_some p (x ∷ xs) w = omega arith
