-- Laws of parts that are a whole.
use Rattle.std.proofs.Common.{◌≡◌, ℕ, suc, ◌≤◌, ◌⊎◌, inl, inr, ⊎_elim, ◌↔◌, List, [], ◌∷◌, ◌++◌, get_or, map, flat_map, All, AllPairs, Contains, refl, sym, ap, ◌∙◌, subst, arith}
use Rattle.std.specs.List.Sorted.{IsPermutation}
use Rattle.std.proofs.lemmas.List.{get_or-map}
use Rattle.std.proofs.lemmas.List.Elements.{All-contains, All-map, Contains-get_or}
use Rattle.std.proofs.lemmas.List.Sorted.{Contains-permutation, IsPermutation-sym}
use Rattle.crp_bay.proofs.Members.{not_in_nil, in_head, in_tail, in_cons_cases}
use Rattle.crp_plan.specs.Bay.{Problem, IsProblem}
use Rattle.crp_tree.specs.Names.{Precedes}
use Rattle.crp_tree.specs.Claims.{IsPart, IsNeeded, given_by, names, times}
use Rattle.crp_tree.specs.Parts.{ProblemPart, part_of, given_of, names_of, floors_of, IsKeptPart, IsLeast, Certificate, IsCertificate, IsAbout}
use Rattle.crp_tree.proofs.Given.{no_name_twice}
use Rattle.crp_tree.proofs.Givers.{times_in, in_times}
use Rattle.crp_tree.proofs.Certified.{same_names}
use Rattle.crp_tree.proofs.Lists.{in_map}
use Rattle.crp_tree.proofs.InOrder.{one_first}
use Rattle.crp_tree.proofs.Ordered.{not_itself, goes_further}
use Rattle.crp_gather.specs.declared.fault.GatherFault.{GatherFault}
use Rattle.crp_gather.specs.declared.fault.GatherFault.TheVariants as fault
use Rattle.crp_gather.specs.Gathers.{Need, Belongs, AreWhole, IsDouble, IsGap, IsStranger, IsGatherFault, IsBalanced}
use Rattle.crp_gather.proofs.InOrder.{part_name}
use Rattle.crp_gather.proofs.Accepted.{named_wanted, whole_once, whole_has, whole_some}

-- the first of parts that rise comes before each later one
head_first : (x z : ProblemPart) (xs : List ProblemPart) → AllPairs Precedes (names_of (x ∷ xs)) → Contains xs z → Precedes x.name z.name
head_first x z xs rising c =
    let k : ℕ = c.0 in
    let within = c.1 in
    let far = get_or-map part_name (x ∷ xs) (suc k) z [] (omega arith) in
    let r = rising 0 (suc k) [] (omega arith) (omega (arith, Rattle.std.proofs.lemmas.List.length-map xs part_name)) in
    subst (λ n. Precedes x.name n) (far ∙ ap part_name c.2) r

-- those after the first rise too
tail_rises : (x : ProblemPart) (xs : List ProblemPart) → AllPairs Precedes (names_of (x ∷ xs)) → AllPairs Precedes (names_of xs)
tail_rises x xs rising i j d ij lt = rising (suc i) (suc j) d (omega arith) (omega arith)

-- two lists that rise and have the same members are the same
same_rising : (xs ys : List ProblemPart) → AllPairs Precedes (names_of xs) → AllPairs Precedes (names_of ys) → ((z : ProblemPart) → Contains xs z → Contains ys z) → ((z : ProblemPart) → Contains ys z → Contains xs z) → xs ≡ ys
same_rising [] [] a b to from = refl
same_rising [] (y ∷ ys) a b to from = absurd (not_in_nil y (from y (in_head y ys)))
same_rising (x ∷ xs) [] a b to from = absurd (not_in_nil x (to x (in_head x xs)))
same_rising (x ∷ xs) (y ∷ ys) a b to from =
    let first : y ≡ x = ⊎_elim
    (λ (e : y ≡ x). e)
    (λ (c : Contains ys x). ⊎_elim
    (λ (e : x ≡ y). sym e)
    (λ (d : Contains xs y). absurd (not_itself x.name (goes_further x.name y.name x.name (head_first x y xs a d) (head_first y x ys b c))))
    (in_cons_cases x xs y (from y (in_head y ys))))
    (in_cons_cases y ys x (to x (in_head x xs))) in
    let rest : xs ≡ ys = same_rising xs ys (tail_rises x xs a) (tail_rises y ys b)
    (λ z c. ⊎_elim
    (λ (e : y ≡ z). absurd (not_itself x.name (subst (λ (v : ProblemPart). Precedes x.name v.name) (sym e ∙ first) (head_first x z xs a c))))
    (λ (d : Contains ys z). d)
    (in_cons_cases y ys z (to z (in_tail x xs z c))))
    (λ z c. ⊎_elim
    (λ (e : x ≡ z). absurd (not_itself y.name (subst (λ (v : ProblemPart). Precedes y.name v.name) (sym e ∙ sym first) (head_first y z ys b c))))
    (λ (d : Contains xs z). d)
    (in_cons_cases x xs z (from z (in_tail y ys z c)))) in
    ap (λ h. h ∷ xs) (sym first) ∙ ap (λ l. y ∷ l) rest

-- a list has one least
one_least : (a b : ℕ) (list : List ℕ) → IsLeast a list → IsLeast b list → a ≡ b
one_least a b list f g =
    let low = All-contains (λ other. a ≤ other) list b f.lowest g.stands in
    let high = All-contains (λ other. b ≤ other) list a g.lowest f.stands in
    omega arith

-- the same parts make one certificate
pub same_certificate : (cert other : Certificate) → IsPermutation cert.parts other.parts → IsCertificate cert → IsCertificate other → cert ≡ other
same_certificate cert other moved is is' =
    let back = IsPermutation-sym cert.parts other.parts moved in
    let parts : cert.parts ≡ other.parts = same_rising cert.parts other.parts is.rising is'.rising (λ z c. Contains-permutation cert.parts other.parts z moved c) (λ z c. Contains-permutation other.parts cert.parts z back c) in
    let lower : cert.lower ≡ other.lower = one_least cert.lower other.lower (floors_of other.parts) (subst (λ l. IsLeast cert.lower (floors_of l)) parts is.lower_is) is'.lower_is in
    ap (λ l. record { parts = l; lower = cert.lower }) parts ∙ ap (λ n. record { parts = other.parts; lower = n }) lower

-- parts are refused for one fault
pub one_fault : (p : Problem) (xs : List ProblemPart) (one other : GatherFault) → IsGatherFault p xs one → IsGatherFault p xs other → (one ≡ fault.Memory) ⊎ (other ≡ fault.Memory) ⊎ (one ≡ other)
one_fault p xs fault.Memory other r s = inl refl
one_fault p xs (fault.Double a) fault.Memory r s = inr (inl refl)
one_fault p xs (fault.Missing a) fault.Memory r s = inr (inl refl)
one_fault p xs (fault.Stranger a) fault.Memory r s = inr (inl refl)
one_fault p xs (fault.Double a) (fault.Double b) r s = inr (inr (ap fault.Double (one_first (IsDouble xs) a b r s)))
one_fault p xs (fault.Double a) (fault.Missing b) r s = absurd (s.0 a r.holds)
one_fault p xs (fault.Double a) (fault.Stranger b) r s = absurd (s.0 a r.holds)
one_fault p xs (fault.Missing a) (fault.Double b) r s = absurd (r.0 b s.holds)
one_fault p xs (fault.Missing a) (fault.Missing b) r s = inr (inr (ap fault.Missing (one_first (IsGap xs) a b r.1 s.1)))
one_fault p xs (fault.Missing a) (fault.Stranger b) r s = absurd (let f = r.1 in s.1 a f.holds)
one_fault p xs (fault.Stranger a) (fault.Double b) r s = absurd (r.0 b s.holds)
one_fault p xs (fault.Stranger a) (fault.Missing b) r s = absurd (let f = s.1 in r.1 b f.holds)
one_fault p xs (fault.Stranger a) (fault.Stranger b) r s = inr (inr (ap fault.Stranger (one_first (IsStranger p xs) a b r.2 s.2)))

-- a whole is refused because memory ran out alone
pub whole_not_refused : (p : Problem) (xs : List ProblemPart) (f : GatherFault) → AreWhole p xs → IsGatherFault p xs f → f ≡ fault.Memory
whole_not_refused p xs fault.Memory w r = refl
whole_not_refused p xs (fault.Double a) w r = absurd (let h = r.holds in omega (arith, h, whole_once p xs w a))
whole_not_refused p xs (fault.Missing a) w r = absurd (let f = r.1 in let h = f.holds in h.1 (whole_has p xs w a h.0))
whole_not_refused p xs (fault.Stranger a) w r = absurd (let f = r.2 in let h = f.holds in h.strange (All-contains (Belongs p xs) xs h.part w.belong h.stands))

-- the names that parts of the problem give
pub given_flat : (p : Problem) (xs : List ProblemPart) → All (λ x. x.problem ≡ p) xs → flat_map given_of xs ≡ flat_map (given_by p) (map part_of xs)
given_flat p [] all = refl
given_flat p (x ∷ xs) all = ap (λ q. given_by q (part_of x) ++ flat_map given_of xs) (all 0 x (omega arith)) ∙ ap (λ l. given_by p (part_of x) ++ l) (given_flat p xs (λ k d lt. all (suc k) d (omega arith)))

-- the parts of a whole are of the problem
pub of_problem : (p : Problem) (xs : List ProblemPart) → AreWhole p xs → All (λ x. x.problem ≡ p) xs
of_problem p xs w k d lt = let b = w.belong k d lt in b.0

-- the names of the parts of a whole are the needed ones
pub as_needed : (p : Problem) (xs : List ProblemPart) → AreWhole p xs → (n : List ℕ) → Contains (names_of xs) n ↔ IsNeeded p (map part_of xs) n
as_needed p xs w n =
    let flat = given_flat p xs (of_problem p xs w) in (
      λ c. ⊎_elim (λ (e : n ≡ []). inl e) (λ (g : Contains (flat_map given_of xs) n). inr (subst (λ l. Contains l n) flat g)) (named_wanted p xs w n c),
      λ needed. whole_has p xs w n
          (⊎_elim (λ (e : n ≡ []). inl e) (λ (g : Contains (flat_map (given_by p) (map part_of xs)) n). inr (subst (λ l. Contains l n) (sym flat) g)) needed),
    )

-- a whole is of a problem
is_problem : (p : Problem) (xs : List ProblemPart) → AreWhole p xs → All IsKeptPart xs → IsProblem p
is_problem p [] w kept = absurd (omega (arith, whole_some p [] w))
is_problem p (x ∷ xs) w kept = let k = kept 0 x (omega arith) in subst IsProblem (of_problem p (x ∷ xs) w 0 x (omega arith)) k.is_problem

-- so a certificate of the parts of a whole is about the problem
pub about : (p : Problem) (xs : List ProblemPart) (cert : Certificate) → AreWhole p xs → All IsKeptPart xs → xs ≡ cert.parts → IsCertificate cert → IsAbout p cert
about p xs cert w kept e c = record {
  is_problem = is_problem p xs w kept;
  certificate = c;
  of_problem = subst (All (λ part. part.problem ≡ p)) e (of_problem p xs w);
  kept = subst (All IsKeptPart) e kept;
  as_needed = λ n. subst (λ l. Contains (names_of l) n ↔ IsNeeded p (map part_of l) n) e (as_needed p xs w n);
}

-- names that balance are a whole
pub whole_balanced : (p : Problem) (xs : List ProblemPart) → IsProblem p → All (λ x. x.problem ≡ p) xs → All IsKeptPart xs → IsBalanced xs → AreWhole p xs
whole_balanced p xs is all kept balanced = record {
  belong = λ k d lt. (all k d lt, wanted (get_or xs k d) (Contains-get_or xs k d lt));
  each_one = λ n w. one n w;
}
  where
    wanted : (x : ProblemPart) → Contains xs x → Need xs x.name
    wanted x c =
        let some = in_times x.name (names_of xs) (in_map part_name xs x c) in
        ⊎_elim
        (λ (e : [] ≡ x.name). inl (sym e))
        (λ (g : Contains (flat_map given_of xs) x.name). inr g)
        (in_cons_cases [] (flat_map given_of xs) x.name (times_in x.name ([] ∷ flat_map given_of xs) (omega (arith, some, balanced x.name))))

    parts : All (IsPart p) (map part_of xs)
    parts = All-map (IsPart p) part_of xs (λ k e lt. let s = kept k e lt in subst (λ q. IsPart q (part_of (get_or xs k e))) (all k e lt) s.is_part)

    balance : (m : List ℕ) → times m (names (map part_of xs)) ≡ times m ([] ∷ flat_map (given_by p) (map part_of xs))
    balance m = ap (times m) (sym (same_names xs)) ∙ balanced m ∙ ap (λ l. times m ([] ∷ l)) (given_flat p xs all)

    there : (n : List ℕ) → Need xs n → Contains ([] ∷ flat_map given_of xs) n
    there n (inl e) = subst (λ m. Contains ([] ∷ flat_map given_of xs) m) (sym e) (in_head [] (flat_map given_of xs))
    there n (inr c) = in_tail [] (flat_map given_of xs) n c

    one : (n : List ℕ) → Need xs n → times n (names_of xs) ≡ 1
    one n w =
        let most = no_name_twice p (map part_of xs) is parts balance n in
        let few : times n (names (map part_of xs)) ≡ times n (names_of xs) = ap (times n) (sym (same_names xs)) in
        let some = in_times n ([] ∷ flat_map given_of xs) (there n w) in
        omega (arith, most, few, some, balanced n)
