-- What each row earns at most, one more row at a time; and what is due.
use Rattle.std.proofs.Common.{◌≡◌, ℕ, zero, suc, ◌+◌, ◌-◌, ◌<◌, ◌≤◌, true, List, [], ◌∷◌, ◌++◌, length, take, drop, Some, slice_get, get_or, slice_index_or, refl, sym, ap, ◌∙◌, subst, arith, append_assoc, append-nil}
use Rattle.std.specs.Prelude.{if◌then◌else◌, sum_by}
use Rattle.std.proofs.Math.Seq.{drop-cons}
use Rattle.std.proofs.lemmas.List.{take_more, drop_all}
use Rattle.std.proofs.lemmas.List.Sums.{sum_by-cons}
use Rattle.std.proofs.lemmas.List.Elements.{All-get_or}
use Rattle.std.proofs.lemmas.Option.{same_Some, slice_get_within, get_or_from_slice_get}
use Rattle.crp_plan.specs.Bay.{Position}
use Rattle.crp_bay.specs.Reached.{IsReached}
use Rattle.crp_bay.proofs.Reaching.{reached_low, reached_sound, reached_same_rows}
use Rattle.crp_bounds.specs.Bounds.{holds_lower, HasLower}
use Rattle.crp_bounds.proofs.Meaning.{lower_found}
use Rattle.crp_prices.specs.declared.job.MarkedJob.{MarkedJob}
use Rattle.crp_prices.specs.Prices.{IsMost, AreMost, firsts_in, least_of}
use Rattle.crp_prices.specs.Pass.{row_pass, row_passes}
use Rattle.crp_prices.specs.AllJobs.{jobs_of, mosts}
use Rattle.crp_prices.proofs.Playing.{least_le}
use Rattle.crp_prices.proofs.Complete.{jobs_are}
use Rattle.crp_prices.proofs.Listing.{few_stand}
use Rattle.crp_prices.proofs.Reading.{most}

-- what stands behind each number
passes_at : (price : ℕ → ℕ → ℕ) (unit ordered : ℕ) (all : List MarkedJob) (heights : List ℕ) (stacks : List (List ℕ)) (row most : ℕ) →
    slice_get (row_passes price unit ordered all heights stacks) row ≡ Some most →
    (height : ℕ) × (stack : List ℕ) × (slice_get heights row ≡ Some height) × (slice_get stacks row ≡ Some stack) × (row_pass price unit ordered all height stack ≡ most)
passes_at price unit ordered all [] stacks row most here = cc
passes_at price unit ordered all (height ∷ heights) [] row most here = cc
passes_at price unit ordered all (height ∷ heights) (stack ∷ stacks) zero most here = (height, stack, refl, refl, same_Some (row_pass price unit ordered all height stack) most here)
passes_at price unit ordered all (height ∷ heights) (stack ∷ stacks) (suc row) most here = passes_at price unit ordered all heights stacks row most here

each_passes : (price : ℕ → ℕ → ℕ) (unit ordered : ℕ) (all : List MarkedJob) (heights : List ℕ) (stacks : List (List ℕ)) → length stacks ≡ length heights →
    length (row_passes price unit ordered all heights stacks) ≡ length stacks
each_passes price unit ordered all [] [] same = refl
each_passes price unit ordered all [] (stack ∷ stacks) same = absurd (omega arith)
each_passes price unit ordered all (height ∷ heights) [] same = absurd (omega arith)
each_passes price unit ordered all (height ∷ heights) (stack ∷ stacks) same = omega (arith, each_passes price unit ordered all heights stacks (omega arith))

-- no row earns more than the pass says
pub pass_mosts : (price : ℕ → ℕ → ℕ) (unit : ℕ) (s : Position) → IsReached s → AreMost price unit s (mosts price unit s)
pass_mosts price unit s r = record {
  each_row = each_passes price unit s.ordered (jobs_of s 96) s.heights s.stacks (reached_same_rows s r);
  most = λ row m here.
      let q = passes_at price unit s.ordered (jobs_of s 96) s.heights s.stacks row m here in
      subst (IsMost price unit s row) q.4 (most price unit s (jobs_of s 96) row q.0 q.1 (reached_sound s r) (jobs_are s 96 (reached_sound s r) (λ x some. few_stand s r x some)) q.2 q.3);
}

-- one more row
pub passes_step : (price : ℕ → ℕ → ℕ) (unit ordered : ℕ) (all : List MarkedJob) (heights : List ℕ) (stacks : List (List ℕ)) (i height : ℕ) (stack : List ℕ) →
    slice_get heights i ≡ Some height → slice_get stacks i ≡ Some stack →
    row_passes price unit ordered all (drop i heights) (drop i stacks) ≡ row_pass price unit ordered all height stack ∷ row_passes price unit ordered all (drop (i + 1) heights) (drop (i + 1) stacks)
passes_step price unit ordered all heights stacks i height stack limit stands =
    let next : suc i ≡ i + 1 = omega arith in
    let a : drop i heights ≡ height ∷ drop (suc i) heights =
    drop-cons heights i height (slice_get_within heights i height limit) ∙ ap (λ l. l ∷ drop (suc i) heights) (get_or_from_slice_get heights i height height limit) in
    let b : drop i stacks ≡ stack ∷ drop (suc i) stacks =
    drop-cons stacks i stack (slice_get_within stacks i stack stands) ∙ ap (λ l. l ∷ drop (suc i) stacks) (get_or_from_slice_get stacks i stack stack stands) in
    ap (λ l. row_passes price unit ordered all l (drop i stacks)) a
    ∙ ap (λ l. row_passes price unit ordered all (height ∷ drop (suc i) heights) l) b
    ∙ ap (λ n. row_pass price unit ordered all height stack ∷ row_passes price unit ordered all (drop n heights) (drop n stacks)) next

pub passes_put : (price : ℕ → ℕ → ℕ) (unit : ℕ) (s : Position) (jobs : List MarkedJob) (ordered row height : ℕ) (stack items after : List ℕ) (n : ℕ) → 1 ≤ row →
    slice_get s.heights (row - 1) ≡ Some height → slice_get s.stacks (row - 1) ≡ Some stack → jobs ≡ jobs_of s 96 → ordered ≡ s.ordered → n ≡ row_pass price unit ordered jobs height stack →
    after ≡ items ++ n ∷ [] → items ++ row_passes price unit s.ordered (jobs_of s 96) (drop (row - 1) s.heights) (drop (row - 1) s.stacks) ≡ mosts price unit s →
    after ++ row_passes price unit s.ordered (jobs_of s 96) (drop (row + 1 - 1) s.heights) (drop (row + 1 - 1) s.stacks) ≡ mosts price unit s
passes_put price unit s jobs ordered row height stack items after n some limit stands jobs_is ordered_is n_is after_is before =
    let all : List MarkedJob = jobs_of s 96 in
    let next : row - 1 + 1 ≡ row + 1 - 1 = omega arith in
    let own : row_pass price unit s.ordered all height stack ≡ n =
    sym (n_is ∙ ap (λ k. row_pass price unit k jobs height stack) ordered_is ∙ ap (λ l. row_pass price unit s.ordered l height stack) jobs_is) in
    let rest : List ℕ = row_passes price unit s.ordered all (drop (row + 1 - 1) s.heights) (drop (row + 1 - 1) s.stacks) in
    let step : row_passes price unit s.ordered all (drop (row - 1) s.heights) (drop (row - 1) s.stacks) ≡ n ∷ rest =
    passes_step price unit s.ordered all s.heights s.stacks (row - 1) height stack limit stands
    ∙ ap (λ k. row_pass price unit s.ordered all height stack ∷ row_passes price unit s.ordered all (drop k s.heights) (drop k s.stacks)) next
    ∙ ap (λ k. k ∷ rest) own in
    ap (λ l. l ++ rest) after_is ∙ append_assoc items (n ∷ []) rest ∙ ap (λ l. items ++ l) (sym step) ∙ before

pub passes_done : (price : ℕ → ℕ → ℕ) (unit : ℕ) (s : Position) (row : ℕ) (items : List ℕ) → length s.heights ≤ row - 1 →
    items ++ row_passes price unit s.ordered (jobs_of s 96) (drop (row - 1) s.heights) (drop (row - 1) s.stacks) ≡ mosts price unit s → items ≡ mosts price unit s
passes_done price unit s row items end before =
    let none : drop (row - 1) s.heights ≡ [] = drop_all (row - 1) s.heights end in
    sym (append-nil items) ∙ ap (λ l. items ++ row_passes price unit s.ordered (jobs_of s 96) l (drop (row - 1) s.stacks)) (sym none) ∙ before

-- a first job's turn is ordered
pub lower_least : (ordered c : ℕ) (under : List ℕ) → holds_lower ordered c under ≡ true → least_of ordered under ≤ ordered
lower_least ordered c under low =
    let l : HasLower ordered c under = lower_found ordered c under low in
    omega (arith, l.is_ordered, least_le ordered l.lower under l.stands)

-- a row is at most 8 high
pub few_height : (s : Position) → IsReached s → (i h : ℕ) → slice_get s.heights i ≡ Some h → h ≤ 8
few_height s r i h here =
    let a = All-get_or (λ height. (1 ≤ height) × (height ≤ 8)) s.heights i h (slice_get_within s.heights i h here) (reached_low s r) in
    let le : get_or s.heights i h ≤ 8 = a.1 in
    omega (arith, get_or_from_slice_get s.heights i h h here)

-- one more container
pub firsts_step : (price : ℕ → ℕ → ℕ) (ordered i d : ℕ) (stack : List ℕ) → i < length stack →
    firsts_in price ordered (take i stack) (drop i stack) ≡
    (if holds_lower ordered (slice_index_or stack i d) (take i stack) then price (slice_index_or stack i d) (least_of ordered (take i stack)) else 0)
    + firsts_in price ordered (take (i + 1) stack) (drop (i + 1) stack)
firsts_step price ordered i d stack lt =
    let next : suc i ≡ i + 1 = omega arith in
    let x : ℕ = slice_index_or stack i d in
    let own : ℕ = if holds_lower ordered x (take i stack) then price x (least_of ordered (take i stack)) else 0 in
    ap (firsts_in price ordered (take i stack)) (drop-cons stack i d lt)
    ∙ ap (λ l. own + firsts_in price ordered l (drop (suc i) stack)) (sym (take_more stack i d lt))
    ∙ ap (λ n. own + firsts_in price ordered (take (i + 1) stack) (drop n stack)) next

-- one more row
pub rows_step : (f : List ℕ → ℕ) (i : ℕ) (stacks : List (List ℕ)) (stack : List ℕ) → slice_get stacks i ≡ Some stack → sum_by f (drop i stacks) ≡ f stack + sum_by f (drop (i + 1) stacks)
rows_step f i stacks stack here =
    let next : suc i ≡ i + 1 = omega arith in
    let split : drop i stacks ≡ stack ∷ drop (suc i) stacks =
    drop-cons stacks i stack (slice_get_within stacks i stack here) ∙ ap (λ l. l ∷ drop (suc i) stacks) (get_or_from_slice_get stacks i stack stack here) in
    ap (sum_by f) split ∙ sum_by-cons f stack (drop (suc i) stacks) ∙ ap (λ n. f stack + sum_by f (drop n stacks)) next
