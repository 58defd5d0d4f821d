-- Each problem has a true answer: the one of a search that finds no memory.
use Rattle.std.proofs.Common.{ℕ, false, min, inl, inr, ⊎_elim, List, [], ◌∷◌, length, Option, None, Some, refl, arith}
use Rattle.std.proofs.lemmas.List.Elements.{All-cons, All-nil}
use Rattle.crp_plan.specs.Bay.{Problem, IsProblem, start, cap}
use Rattle.crp_plan.specs.Plans.{ProblemPath}
use Rattle.crp_bay.specs.Positions.{settled}
use Rattle.crp_bay.proofs.Walked.{begins_at}
use Rattle.crp_bounds.specs.Bounds.{look_ahead}
use Rattle.crp_tree.specs.Tree.{CutL}
use Rattle.crp_tree.specs.Mark.{L}
use Rattle.crp_tree.specs.Trees.{IsInPlace}
use Rattle.crp_tree.specs.Claims.{IsPart}
use Rattle.crp_tree.specs.Parts.{ProblemPart, IsKeptPart, Certificate}
use Rattle.crp_tree.proofs.Kept.{kept}
use Rattle.crp_search.specs.Greedy.{IsGreedyPath}
use Rattle.crp_search.proofs.GreedyKnown.{greedy_known}
use Rattle.crp_solve.specs.declared.answer.Answer.TheVariants.{Between}
use Rattle.crp_solve.specs.declared.answer.Cause.TheVariants.{Memory}
use Rattle.crp_solve.specs.declared.answer.Second.TheVariants as second
use Rattle.crp_solve.specs.declared.answer.Solved.{Solved}
use Rattle.crp_solve.specs.Chosen.{Chosen}
use Rattle.crp_solve.specs.Solved.{IsSolved}
use Rattle.crp_solve.specs.Searches.{IsBestMet}
use Rattle.crp_solve.proofs.One.{root_shows, one_certificate}
use Rattle.crp_solve.proofs.TrueAnswers.{cut_is_true}

-- the greedy plan, if there is one, is the best before a search
best_before : (p : Problem) → IsProblem p → (plan : Option ProblemPath) × IsBestMet p plan
best_before p is = ⊎_elim
    (λ (greedy : (path : List ℕ) × IsGreedyPath p path). (
      Some (record { problem = p; path = greedy.0 }),
      record { is_problem = is; plan_is = record { of_problem = refl; complete = greedy.1.plan }; no_more = record { limit = length greedy.0; is_limit = inl (greedy.0, greedy.1, refl); within = omega arith } },
    ))
    (λ (none : (path : List ℕ) → IsGreedyPath p path → ⊥). (None, record { is_problem = is; plan_is = tt; no_more = record { limit = cap p; is_limit = inr (none, refl); within = omega arith } }))
    (greedy_known p is)

-- the part of one cut at the root
abbrev cut_at : Problem → ProblemPart
cut_at p = record { problem = p; name = []; tree = CutL; floor = min (cap p) (look_ahead (settled (start p))) }

cut_is_part : (p : Problem) → IsProblem p → IsPart p (record { name = []; tree = CutL })
cut_is_part p is = record {
  short = omega arith;
  place = settled (start p);
  is_at = begins_at p is;
  shape = record { fits = tt; in_place = All-cons IsInPlace (record { path = []; place = settled (start p); mark = L }) [] tt (All-nil IsInPlace); not_given = λ no. absurd no };
}

cut_is_kept : (p : Problem) → IsProblem p → IsKeptPart (cut_at p)
cut_is_kept p is = kept p p [] CutL (min (cap p) (look_ahead (settled (start p)))) refl is (cut_is_part p is) (omega arith)

-- and with the certificate of that part alone
pub has_answer : (p : Problem) (chosen : Chosen) → IsProblem p → (solved : Solved) × IsSolved p chosen solved
has_answer p chosen is =
    let cert : Certificate = record { parts = cut_at p ∷ []; lower = min (cap p) (look_ahead (settled (start p))) } in
    let best = best_before p is in (
      record { answer = Between cert.lower cert best.0 Memory; expanded = 0; stopped = false; second = second.NotAsked; second_expanded = 0 },
      record {
        answer = cut_is_true p chosen.budget cert best.0 0 (root_shows p (cut_at p) cert best.0 chosen.budget 0 is refl (one_certificate (cut_at p) cert refl) refl (cut_is_kept p is) refl refl tt refl best.1 (omega arith))
            (record { part = cut_at p; alone = refl; cut = tt });
        searches = refl;
        one_search = λ alone none. tt;
        second = (refl, refl);
        timely = λ yes. absurd (cc);
      },
    )
