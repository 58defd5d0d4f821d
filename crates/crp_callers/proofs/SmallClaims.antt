-- The certificate of the small bay is accepted, and shows that its plan has the fewest relocations.
use Rattle.std.proofs.Common.{◌≡◌, ◌≢◌, ◌≤◌, ◌⊎◌, ℕ, zero, suc, List, [], ◌∷◌, None, Contains, refl, sym, inl, inr, arith}
use Rattle.std.proofs.lemmas.List.Elements.{All-from_recursion}
use Rattle.std.proofs.lemmas.List.Kept.{AllPairs-cons}
use Rattle.crp_plan.specs.Bay.{Position, IsAt}
use Rattle.crp_tree.specs.Tree.{CutL}
use Rattle.crp_tree.specs.Trees.{IsInPlace, HasAtLeast, nodes, cuts, value}
use Rattle.crp_tree.specs.Claims.{IsPart, IsAccepted, nodes_in}
use Rattle.crp_cert.specs.Script.{claim_of}
use Rattle.crp_checker.specs.declared.verdict.Verdict.TheVariants.{Optimal}
use Rattle.crp_checker.specs.Shown.{TextShows}
use Rattle.crp_callers.specs.SmallBay.{lines, small, small_script, script_lines}
use Rattle.crp_callers.specs.SmallPlan.{small_plan}
use Rattle.crp_callers.proofs.SmallBays.{small_problem, small_text_is}
use Rattle.crp_callers.proofs.SmallPlans.{small_plan_is}

root_alone : (name : List ℕ) → Contains ([] ∷ []) name → (name ≡ []) ⊎ Contains [] name
root_alone name (zero, below, is) = inl (sym is)
root_alone name (suc k, below, is) = absurd (omega arith)

root_needed : (name : List ℕ) → (name ≡ []) ⊎ Contains [] name → Contains ([] ∷ []) name
root_needed name (inl is) = (0, omega arith, sym is)
root_needed name (inr (k, below, is)) = absurd (omega arith)

small_accepted : ((s : Position) × IsAt small [] s) → IsAccepted (claim_of small_script)
small_accepted spot = record {
  is_problem = small_problem;
  within_cap = omega arith;
  plan_is = (small_plan, small_plan_is, refl);
  each_part = All-from_recursion (IsPart small) small_script.parts (
    record {
      short = omega arith;
      place = spot.0;
      is_at = spot.1;
      shape = record { fits = tt; in_place = All-from_recursion IsInPlace (nodes [] spot.0 CutL) (tt, tt); not_given = λ n. n };
    },
    tt,
  );
  each_cut = All-from_recursion (λ part. HasAtLeast 2 (nodes_in small part)) small_script.parts (
    All-from_recursion (λ cut. 2 ≤ value cut) (cuts (nodes_in small (record { name = []; tree = CutL }))) (omega arith, tt),
    tt,
  );
  each_once = AllPairs-cons ◌≢◌ [] [] (All-from_recursion (λ name. [] ≢ name) [] tt) (λ i j d less below. absurd (omega arith));
  as_needed = λ name. (root_alone name, root_needed name);
}

pub small_shows : ((s : Position) × IsAt small [] s) → TextShows None (lines script_lines) (Optimal 2)
small_shows spot = (small_script, record { is_text = small_text_is spot; as_wanted = tt; accepted = small_accepted spot }, (refl, refl))
