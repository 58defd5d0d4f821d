-- The first worker after it searched the part of the root.
use Rattle.std.proofs.Common.{length, ◌≡◌, ℕ, Bool, true, not, refl, subst, All, map, List, [], ◌∷◌, ◌++◌, Option, None, Some, IfSome, sym, ap, ◌∙◌, arith}
use Rattle.std.specs.Option.{is_some}
use Rattle.std.proofs.lemmas.List.Sums.{sum_by-cons}
use Rattle.crp_plan.specs.declared.running.View.{View}
use Rattle.crp_plan.specs.Plans.{ProblemPath}
use Rattle.crp_tree.specs.Parts.{ProblemPart, given_of, branches_in}
use Rattle.crp_incumbent.specs.Seats.{Shared}
use Rattle.crp_pool.specs.Weigh.{weigh}
use Rattle.crp_pool.specs.Seats.{PoolSeat, seat_number, all_takes}
use Rattle.crp_pool.proofs.Hands.{weigh-append}
use Rattle.crp_solve.specs.Desks.{fixed_at, IsCountedPart}
use Rattle.crp_solve.specs.Groups.{Crew, Keeping, with_part, root_at, IsGroup, IsUnused}
use Rattle.crp_gather.specs.Settled.{branches_in_all}
use Rattle.crp_solve.proofs.Tasks.{same_number, same_takes}
use Rattle.crp_solve.proofs.Granting.{grants_first}

-- at the first place, the root's name alone counts
pub first_root : (h : List ℕ → ℕ) (s : PoolSeat) → s.number ≡ 0 → weigh h (root_at s) ≡ h []
first_root h s e = ap (λ (n : ℕ). weigh h (root_at (record s { number = n }))) e ∙ omega arith

begun_group : (keeps : Keeping) (of : Shared) (v w : View) (plan : Option ProblemPath) (q s : PoolSeat) (found : Option ProblemPart) → v.granted ≡ 0 → IsUnused q → q.number ≡ 0 →
    fixed_at (Some s) ≡ fixed_at (Some q) → IfSome found (IsCountedPart of.key.thin v w (Some q) (Some s) []) → keeps of w plan (with_part [] found) →
    (stopped : Bool) → (stopped ≡ true → of.key.timed ≡ true) → IsGroup keeps (record { of = of; view = w; plan = plan; parts = with_part [] found; places = s ∷ []; short = not (is_some found); stopped = stopped })
begun_group keeps of v w plan q s None none new first fixed f kept stopped timely = record { kept = kept; counted = λ ok. absurd (cc); timely = timely }
begun_group keeps of v w plan q s (Some x) none new first fixed f kept stopped timely = record {
  kept = kept;
  timely = timely;
  counted = λ ok. record {
    grants = grants_first of.key.thin v.granted (length (branches_in x)) w.granted (branches_in_all (x ∷ [])) none (omega (arith, sum_by-cons (λ (y : ProblemPart). length (branches_in y)) x [])) f.grants;
    takes = λ h. (
        let n : s.number ≡ 0 = same_number q s fixed ∙ first in let t : s.takes ≡ [] = same_takes q s fixed ∙ new.no_takes in
        let a : weigh h s.takes ≡ 0 = ap (weigh h) t in let e : h x.name ≡ h [] = ap h f.name_is in
        omega (arith, first_root h s n, weigh-append h (root_at s) [], weigh-append h s.takes [], weigh-append h (root_at s ++ []) (s.takes ++ [])));
    puts = λ h. (
        let a : weigh h s.puts ≡ weigh h (given_of x) = ap (weigh h) (f.puts ∙ ap (λ l. l ++ given_of x) new.no_puts) in
        omega (arith, weigh-append h s.puts [], weigh-append h (given_of x) []));
  };
}

-- so the first worker is a group
pub begun_is_group : (keeps : Keeping) (of : Shared) (v : View) (q s : PoolSeat) (found : Option ProblemPart) (new : Crew) → new.of ≡ of → v.granted ≡ 0 → IsUnused q → q.number ≡ 0 → fixed_at (Some s) ≡ fixed_at (Some q) →
    IfSome found (IsCountedPart of.key.thin v new.view (Some q) (Some s) []) → keeps of new.view new.plan (with_part [] found) → new.parts ≡ with_part [] found → new.places ≡ s ∷ [] → new.short ≡ not (is_some found) →
    (new.stopped ≡ true → of.key.timed ≡ true) → IsGroup keeps new
begun_is_group keeps of v q s found new at none unused first fixed counted kept parts places short timely =
    let g = begun_group keeps of v new.view new.plan q s found none unused first fixed counted kept new.stopped timely in
    subst (λ o. IsGroup keeps (record { of = o; view = new.view; plan = new.plan; parts = new.parts; places = new.places; short = new.short; stopped = new.stopped })) (sym at)
    (subst (λ b. IsGroup keeps (record { of = of; view = new.view; plan = new.plan; parts = new.parts; places = new.places; short = b; stopped = new.stopped })) (sym short)
    (subst (λ l. IsGroup keeps (record { of = of; view = new.view; plan = new.plan; parts = new.parts; places = l; short = not (is_some found); stopped = new.stopped })) (sym places)
    (subst (λ l. IsGroup keeps (record { of = of; view = new.view; plan = new.plan; parts = l; places = s ∷ []; short = not (is_some found); stopped = new.stopped })) (sym parts) g)))

-- the only place of a pool
pub only_place : (xs ys : List PoolSeat) (x : PoolSeat) → map seat_number ys ≡ 0 ∷ [] → ys ≡ xs ++ x ∷ [] → All IsUnused ys → (xs ≡ []) × (x.number ≡ 0) × IsUnused x
only_place [] ys x e is all = (refl, (let f : x.number ∷ [] ≡ 0 ∷ [] = subst (λ l. map seat_number l ≡ 0 ∷ []) is e in cc), subst (All IsUnused) is all 0 x (omega arith))
only_place (z ∷ []) ys x e is all = absurd (let f : z.number ∷ x.number ∷ [] ≡ 0 ∷ [] = subst (λ l. map seat_number l ≡ 0 ∷ []) is e in cc)
only_place (z ∷ w ∷ xs) ys x e is all = absurd (let f : z.number ∷ w.number ∷ map seat_number (xs ++ x ∷ []) ≡ 0 ∷ [] = subst (λ l. map seat_number l ≡ 0 ∷ []) is e in cc)

-- it took nothing from the pool
pub none_taken_at : (q s : PoolSeat) (places : List PoolSeat) → IsUnused q → fixed_at (Some s) ≡ fixed_at (Some q) → places ≡ s ∷ [] → all_takes places ≡ []
none_taken_at q s places unused fixed is = ap all_takes is ∙ ap (λ l. l ++ []) (same_takes q s fixed ∙ unused.no_takes)
