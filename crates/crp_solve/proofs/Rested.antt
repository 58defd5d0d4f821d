-- The parts of what workers left, one more, and all of them.
use Rattle.std.proofs.Common.{length, ◌≡◌, ℕ, List, [], ◌∷◌, ◌++◌, Option, None, Some, sym, ap, arith}
use Rattle.std.proofs.lemmas.List.Sums.{sum_by-append, sum_by-cons}
use Rattle.crp_plan.specs.declared.running.View.{View}
use Rattle.crp_plan.specs.Plans.{ProblemPath}
use Rattle.crp_tree.specs.Parts.{ProblemPart, given_of, branches_in}
use Rattle.crp_incumbent.specs.Seats.{Shared}
use Rattle.crp_pool.specs.Weigh.{weigh, SameNames}
use Rattle.crp_pool.specs.Seats.{PoolSeat}
use Rattle.crp_pool.proofs.Hands.{weigh-append}
use Rattle.crp_solve.specs.Desks.{fixed_at, IsCountedPart}
use Rattle.crp_solve.specs.Groups.{Keeping}
use Rattle.crp_search.specs.Meeting.{grants_more}
use Rattle.crp_gather.specs.Settled.{branches_in_all}
use Rattle.crp_solve.specs.Rests.{IsDoneUpTo}
use Rattle.crp_solve.proofs.Grouped.{given-append, names-append}

-- a part that was searched where no name can be put gives none
gives_none : {thin : ℕ} (v w : View) (after : Option PoolSeat) (name : List ℕ) (x : ProblemPart) → fixed_at after ≡ None → IsCountedPart thin v w None after name x → given_of x ≡ []
gives_none v w None name x e f = sym f.puts
gives_none v w (Some s) name x e f = absurd (cc)

-- one part more is done
pub done_more : (keeps : Keeping) (of : Shared) (v w : View) (plan better : Option ProblemPath) (xs : List ProblemPart) (x : ProblemPart) (puts takes puts' takes' : List (List ℕ)) (after : Option PoolSeat) (name : List ℕ) →
    IsDoneUpTo keeps of v plan xs puts takes → keeps of w better (xs ++ x ∷ []) → IsCountedPart of.key.thin v w None after name x → fixed_at after ≡ None →
    puts' ≡ puts → SameNames takes' (takes ++ name ∷ []) → IsDoneUpTo keeps of w better (xs ++ x ∷ []) puts' takes'
done_more keeps of v w plan better xs x puts takes puts' takes' after name d kept f fixed same took = record {
  kept = kept;
  grants = grants_more of.key.thin 0 (branches_in_all xs) v.granted (length (branches_in x)) w.granted (branches_in_all (xs ++ x ∷ []))
      (omega (arith, sum_by-append (λ (y : ProblemPart). length (branches_in y)) xs (x ∷ []), sum_by-cons (λ (y : ProblemPart). length (branches_in y)) x [])) d.grants f.grants;
  taken = λ h. (let a = took h in let b = d.taken h in let e : h x.name ≡ h name = ap h f.name_is in omega (arith, names-append h xs (x ∷ []), weigh-append h takes (name ∷ [])));
  put = λ h. (
      let b = d.put h in let c : weigh h puts' ≡ weigh h puts = ap (weigh h) same in let e : weigh h (given_of x) ≡ 0 = ap (weigh h) (gives_none v w after name x fixed f) in
      omega (arith, given-append h xs (x ∷ []), weigh-append h (given_of x) []));
}
