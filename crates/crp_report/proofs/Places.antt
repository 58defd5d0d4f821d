-- Places of bays in a list of which some are done, and answers that lay on a shelf.
use Rattle.std.proofs.Common.{◌≡◌, ◌∙◌, ℕ, ◌<◌, List, [], ◌∷◌, ◌++◌, length, Option, Some, refl, sym, ap, subst}
use Rattle.std.specs.Prelude.{slice_get}
use lib.ListN.{get_or}
use Rattle.std.proofs.lemmas.List.{get_or_default}
use Rattle.crp_order.specs.declared.bay_problem.BayProblem.{BayProblem}
use Rattle.crp_solve.specs.Chosen.{Chosen}
use Rattle.crp_report.specs.declared.ready.Ready.{Ready}
use Rattle.crp_report.specs.Looks.{IsReady, IsReadyAt}

got_behind : {X : Type 0} (xs : List X) (x : X) (ys : List X) → slice_get (xs ++ x ∷ ys) (length xs) ≡ Some x
got_behind [] x ys = refl
got_behind (y ∷ xs) x ys = got_behind xs x ys

-- the next bay stands behind those that are done
pub next_bay : (before : List BayProblem) (bay : BayProblem) (rest all : List BayProblem) (place : ℕ) → before ++ bay ∷ rest ≡ all → place ≡ length before → slice_get all place ≡ Some bay
next_bay before bay rest all place is at = ap (λ n. slice_get all n) at ∙ ap (λ (l : List BayProblem). slice_get l (length before)) (sym is) ∙ got_behind before bay rest

-- ---- answers that lay on a shelf

one_bay : (x y : BayProblem) → Option.Some x ≡ Some y → x ≡ y
one_bay x y e = cc

-- the answer to the bay at a place, where that bay stands
pub is_ready : (c chosen : Chosen) (posed bays : List BayProblem) (at place : ℕ) (ready : Ready) (bay : BayProblem) → c ≡ chosen → posed ≡ bays → at ≡ place → IsReadyAt c posed at ready
    → slice_get bays place ≡ Some bay → IsReady chosen bay ready
is_ready c chosen posed bays at place ready bay e same here of stands =
    let bay_at : slice_get posed at ≡ Some bay = ap (λ (l : List BayProblem). slice_get l at) same ∙ ap (slice_get bays) here ∙ stands in
    subst (λ d. IsReady d bay ready) e (subst (λ b. IsReady c b ready) (one_bay of.bay bay (sym of.stands ∙ bay_at)) of.answered)

-- what is taken from among others has the place that was seen there
pub same_place : (places : List ℕ) (i place taken seen : ℕ) → i < length places → taken ≡ get_or places i taken → seen ≡ get_or places i seen → seen ≡ place → taken ≡ place
same_place places i place taken seen lt e f at = e ∙ get_or_default places i taken seen lt ∙ sym f ∙ at
