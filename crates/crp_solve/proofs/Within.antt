-- An answer within a budget is one within a larger budget, where no search spent all of it.
use Rattle.std.proofs.Common.{◌≡◌, ℕ, ◌+◌, ◌-◌, ◌≤◌, Bool, true, false, List, [], ◌∷◌, Option, Some, ap, sym, subst, ◌∙◌, arith}
use Rattle.crp_plan.specs.Bay.{Problem}
use Rattle.crp_plan.specs.Plans.{ProblemPath}
use Rattle.crp_tree.specs.Parts.{Certificate}
use Rattle.crp_solve.specs.declared.answer.Answer.{Answer}
use Rattle.crp_solve.specs.declared.answer.Answer.TheVariants.{Optimal, First, NoPlan, Between}
use Rattle.crp_solve.specs.declared.answer.Cause.TheVariants.{Budget, Memory, Time}
use Rattle.crp_solve.specs.declared.answer.Second.{Second}
use Rattle.crp_solve.specs.declared.answer.Second.TheVariants as second
use Rattle.crp_solve.specs.declared.answer.Solved.{Solved}
use Rattle.crp_solve.specs.declared.end.Together.{Together}
use Rattle.crp_solve.specs.Chosen.{Chosen}
use Rattle.crp_solve.specs.Answers.{Ended, StaysAsFound, EndedSecond}
use Rattle.crp_solve.specs.Rests.{IsFoundTogether}
use Rattle.crp_solve.specs.Rounds.{Round, behind, Deepen, SearchesOf, AreSearched}
use Rattle.crp_solve.specs.Solved.{known_by, ComesOf, IsSolved, SpendsWithin}

-- the same holds of what one of many searches spends
of_round : (budget whole known found spent : ℕ) → SpendsWithin budget whole spent → known + found ≤ spent → spent ≤ budget → SpendsWithin (budget - known) (whole - known) found
of_round budget whole known found spent s le most = record {
  within = let w = s.within in omega (arith, w);
  all = λ e. ap (λ n. n - known) (s.all (omega (arith, e, le, most)));
}

found_within : {thin : ℕ} {p : Problem} {first : ℕ} {cert : Certificate} {best : Option ProblemPath} {expanded : ℕ} {stopped : Bool} (budget whole : ℕ) → SpendsWithin budget whole expanded
    → IsFoundTogether thin p budget first cert best expanded stopped → IsFoundTogether thin p whole first cert best expanded stopped
found_within budget whole s f =
    let w = f.ended in let le = s.within in record {
      view = f.view;
      granted = f.granted;
      best_is = f.best_is;
      ended = record {
        about = w.about;
        searched = w.searched;
        first_is = w.first_is;
        low = w.low;
        met = w.met;
        granted = w.granted;
        within = omega (arith, w.within, le);
        refused_last = λ no some. let all = w.refused_last no some in all ∙ s.all (f.granted ∙ all);
      };
      left = λ yes. omega (arith, f.left yes, le);
    }

-- what many searches spend grows, and stays within the budget
spends : (thin : ℕ) (p : Problem) (budget : ℕ) (known : Together) (rounds : List Round) (end : Together) → Deepen thin p budget known rounds end → known.expanded ≤ end.expanded
spends thin p budget known [] end e = omega (arith, ap (λ (t : Together). t.expanded) e)
spends thin p budget known (round ∷ rounds) end (next, more) = let grown = spends thin p budget (behind known round.found) rounds end more in omega (arith, grown)

deepen_within : (thin : ℕ) (p : Problem) (budget whole : ℕ) (known : Together) (rounds : List Round) (end : Together) → SpendsWithin budget whole end.expanded → end.expanded ≤ budget
    → Deepen thin p budget known rounds end → Deepen thin p whole known rounds end
deepen_within thin p budget whole known [] end s most e = e
deepen_within thin p budget whole known (round ∷ rounds) end s most (next, more) =
    let grown = spends thin p budget (behind known round.found) rounds end more in let undecided = next.undecided in let le = s.within in (
      record {
        goes_on = next.goes_on;
        undecided = record { below = undecided.below; left = omega (arith, undecided.left, le) };
        limit = next.limit;
        found = found_within (budget - known.expanded) (whole - known.expanded) (of_round budget whole known.expanded round.found.expanded end.expanded s grown most) next.found;
      },
      deepen_within thin p budget whole (behind known round.found) rounds end s most more,
    )

searches_within : (deepen : Bool) (thin : ℕ) (p : Problem) (budget whole : ℕ) (plan : Option ProblemPath) (end : Together) → SpendsWithin budget whole end.expanded → end.expanded ≤ budget
    → SearchesOf deepen thin p budget plan end → SearchesOf deepen thin p whole plan end
searches_within true thin p budget whole plan end s most r = record {
  before = r.before;
  known = r.known;
  rounds = r.rounds;
  deepen = deepen_within thin p budget whole r.before r.rounds end s most r.deepen;
  to_end = λ no below. let all = r.to_end no below in all ∙ s.all all;
}
searches_within false thin p budget whole plan end s most one = record { met = one.met; found = found_within budget whole s one.found; best = one.best }

-- the settings of so many workers with this budget
abbrev pub with_budget : Chosen → ℕ → ℕ → Chosen
with_budget c workers budget = record c { workers = workers; budget = budget }

searched_within : (p : Problem) (c : Chosen) (workers budget : ℕ) (end : Together) → SpendsWithin budget c.budget end.expanded → end.expanded ≤ budget → AreSearched p (with_budget c workers budget) end → AreSearched p c end
searched_within p c workers budget end s most a = let b = a.begins in record {
  plan = a.plan;
  begins = record { best_met = b.best_met; greedy = b.greedy };
  searches = searches_within c.deepen c.thin p budget c.budget a.plan end s most a.searches;
  timely = a.timely;
}

comes_within : (p : Problem) (c : Chosen) (workers budget : ℕ) (answer : Answer) (expanded : ℕ) (stopped : Bool) → SpendsWithin budget c.budget expanded → expanded ≤ budget
    → ComesOf p (with_budget c workers budget) answer expanded stopped → ComesOf p c answer expanded stopped
comes_within p c workers budget (Optimal plan cert) expanded stopped s most a = searched_within p c workers budget _ s most a
comes_within p c workers budget (First plan cert) expanded stopped s most (best, shown, a) = (best, shown, searched_within p c workers budget (known_by shown (Some best) expanded stopped) s most a)
comes_within p c workers budget (NoPlan cert) expanded stopped s most a = searched_within p c workers budget _ s most a
comes_within p c workers budget (Between lower cert plan Budget) expanded stopped s most (goes_on, a) = (goes_on, searched_within p c workers budget _ s most a)
comes_within p c workers budget (Between lower cert plan Memory) expanded stopped s most goes_on = goes_on
comes_within p c workers budget (Between lower cert plan Time) expanded stopped s most (ended, a) = (ended, searched_within p c workers budget _ s most a)

ended_within : (p : Problem) (budget whole : ℕ) (answer : Answer) (expanded : ℕ) → SpendsWithin budget whole expanded → Ended p budget answer expanded → Ended p whole answer expanded
ended_within p budget whole (Optimal plan cert) expanded s e = e
ended_within p budget whole (First plan cert) expanded s e = e
ended_within p budget whole (NoPlan cert) expanded s e = e
ended_within p budget whole (Between lower cert plan Budget) expanded s (few, e) = (few, record { all = e.all ∙ s.all e.all; below = e.below })
ended_within p budget whole (Between lower cert plan Memory) expanded s e = e
ended_within p budget whole (Between lower cert plan Time) expanded s (few, e) = (few, record { left = let le = s.within in omega (arith, e.left, le); below = e.below })

stays_within : (budget whole : ℕ) (asked : Bool) (end : Second) (expanded : ℕ) → SpendsWithin budget whole expanded → StaysAsFound budget asked end expanded → StaysAsFound whole asked end expanded
stays_within budget whole asked second.NotAsked expanded s e = e
stays_within budget whole asked second.Done expanded s e = e
stays_within budget whole asked second.Budget expanded s (is_asked, all) = (is_asked, all ∙ s.all all)
stays_within budget whole asked second.Memory expanded s (is_asked, most) = (is_asked, let le = s.within in omega (arith, most, le))
stays_within budget whole asked second.Time expanded s (is_asked, left) = (is_asked, let le = s.within in omega (arith, left, le))

second_within : (budget whole : ℕ) (asked : Bool) (answer : Answer) (end : Second) (expanded : ℕ) → SpendsWithin budget whole expanded → EndedSecond budget asked answer end expanded
    → EndedSecond whole asked answer end expanded
second_within budget whole asked (Optimal plan cert) end expanded s e = stays_within budget whole asked end expanded s e
second_within budget whole asked (First plan cert) end expanded s (is_asked, done, few, most) = (is_asked, done, few, let le = s.within in omega (arith, most, le))
second_within budget whole asked (NoPlan cert) end expanded s e = e
second_within budget whole asked (Between lower cert plan cause) end expanded s e = e

solved_within : (p : Problem) (c : Chosen) (workers budget : ℕ) (solved : Solved) → SpendsWithin budget c.budget solved.expanded → SpendsWithin budget c.budget solved.second_expanded
    → IsSolved p (with_budget c workers budget) solved → IsSolved p c solved
solved_within p c workers budget solved s t is =
    let a = is.answer in let le = s.within in record {
      answer = record {
        says = a.says;
        ended = ended_within p budget c.budget solved.answer solved.expanded s a.ended;
        within = omega (arith, a.within, le);
        of_problem = a.of_problem;
        certificate = a.certificate;
        accepted = a.accepted;
        needed = a.needed;
      };
      searches = comes_within p c workers budget solved.answer solved.expanded solved.stopped s a.within is.searches;
      one_search = is.one_search;
      second = second_within budget c.budget c.first solved.answer solved.second solved.second_expanded t is.second;
      timely = is.timely;
    }

moved : (few n budget whole spent : ℕ) → few ≡ n → budget ≡ whole → SpendsWithin few budget spent → SpendsWithin n whole spent
moved few n budget whole spent e f s = record { within = let le = s.within in omega (arith, le, e, f); all = λ q. sym e ∙ s.all (q ∙ sym e) ∙ f }

-- so it is of what these settings answer, which are others but for the workers and the budget
pub look_serves : (p : Problem) (c few : Chosen) (n spends budget : ℕ) (solved : Solved) → few ≡ with_budget c 1 n → spends ≡ few.budget → budget ≡ c.budget
    → SpendsWithin spends budget solved.expanded × SpendsWithin spends budget solved.second_expanded → IsSolved p few solved → IsSolved p c solved
look_serves p c few n spends budget solved e f w (first, next) is =
    let same : spends ≡ n = f ∙ ap (λ (x : Chosen). x.budget) e in
    solved_within p c 1 n solved (moved spends n budget c.budget solved.expanded same w first) (moved spends n budget c.budget solved.second_expanded same w next)
    (subst (λ (x : Chosen). IsSolved p x solved) e is)
