-- The small bay is one.
use Rattle.std.proofs.Common.{◌≡◌, ◌≤◌, ◌<◌, ℕ, zero, suc, [], ◌∷◌, refl, sym, arith}
use Rattle.std.proofs.lemmas.List.Elements.{All-from_recursion}
use Rattle.std.proofs.lemmas.Bool.Decides.{nat_tests}
use Rattle.std.proofs.lemmas.List.Kept.{AllPairs-cons}
use Rattle.crp_tree.specs.Names.{Precedes}
use Rattle.crp_plan.specs.Rows.{occurrences, total}
use Rattle.crp_plan.specs.Faults.{HasTiers}
use Rattle.crp_plan.specs.BayNames.{IsYardBay}
use Rattle.crp_plan.specs.Bay.{IsProblem, Position, IsAt}
use Rattle.std.specs.Fmt.{digits}
use Rattle.crp_cert.specs.Text.{IsHead, head_text}
use Rattle.crp_cert.specs.Script.{script_text, IsPartLine, IsScript, IsScriptOf}
use Rattle.crp_callers.specs.SmallBay.{first_bay, small, small_head, small_script, lines, head_lines, script_lines}

once : (x : ℕ) → 1 ≤ x → x ≤ total small.stacks → occurrences x small.stacks ≡ 1
once zero low high = absurd (omega arith)
once (suc zero) low high = refl
once (suc (suc zero)) low high = refl
once (suc (suc (suc zero))) low high = refl
once (suc (suc (suc (suc x)))) low high = absurd (omega arith)

other : (x : ℕ) → 0 < occurrences x small.stacks → (1 ≤ x) × (x ≤ total small.stacks)
other zero some = absurd (omega arith)
other (suc zero) some = (omega arith, omega arith)
other (suc (suc zero)) some = (omega arith, omega arith)
other (suc (suc (suc zero))) some = (omega arith, omega arith)
other (suc (suc (suc (suc x)))) some = absurd (grind (arith, nat_tests))

pub small_problem : IsProblem small
small_problem = record {
  some_rows = omega arith;
  few_rows = omega arith;
  heights_fit = All-from_recursion (λ height. HasTiers height) (2 ∷ 2 ∷ []) ((omega arith, omega arith), ((omega arith, omega arith), tt));
  stacks_fit = (omega arith, (omega arith, tt));
  each_once = once;
  no_other = other;
  ordered_fit = omega arith;
}

pub first_bay_is : IsYardBay first_bay
first_bay_is = record {
  some_characters = omega arith;
  few_characters = omega arith;
  printed = All-from_recursion (λ b. (33 ≤ b) × (b ≤ 126)) (65 ∷ []) ((omega arith, omega arith), tt);
  counts = omega arith;
  four_digits = omega arith;
}

pub small_head_is : IsHead small_head
small_head_is = record {
  name = first_bay_is;
  problem = small_problem;
  can_state = refl;
  can_claim = tt;
  claim = omega arith;
  plan = (omega arith, All-from_recursion (λ row. row ≤ 99) (2 ∷ 1 ∷ []) (omega arith, (omega arith, tt)));
}

pub small_head_text : head_text small_head ≡ lines head_lines
unfolding digits
small_head_text = refl

pub small_script_text : script_text small_script ≡ lines script_lines
unfolding digits
small_script_text = refl

-- where some position stands at the empty path
pub small_script_is : (spot : (s : Position) × IsAt small [] s) → IsScript small_script
small_script_is spot = record {
  is_head = small_head_is;
  each_part = All-from_recursion (IsPartLine small_head.version small) small_script.parts (record { short = omega arith; place = spot.0; is_at = spot.1; fits = tt; not_given = λ n. n; can_spell = refl }, tt);
  rising = AllPairs-cons Precedes [] [] (All-from_recursion (Precedes []) [] tt) (λ i j d less below. absurd (omega arith));
}

pub small_text_is : ((s : Position) × IsAt small [] s) → IsScriptOf (lines script_lines) small_script
small_text_is spot = (small_script_is spot, sym small_script_text)
