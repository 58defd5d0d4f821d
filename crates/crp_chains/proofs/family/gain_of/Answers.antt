use Rattle.std.proofs.Common.{◌≡◌, ◌<◌, ℕ, List, [], ◌∷◌, ◌++◌, length, take, get_or, refl, sym, ap, ◌∙◌, arith}
use Rattle.std.proofs.lemmas.List.{take_more, length-map}
use Rattle.arrayvec.specs.ArrayVec.{ArrayVec}
use Rattle.crp_plan.specs.Bay.{Position}
use Rattle.crp_plan.proofs.Lists.{times}
use Rattle.crp_bay.proofs.Reaching.{reached_sound}
use Rattle.crp_chains.specs.Chains.{IsChain, ranks_of}
use Rattle.crp_chains.specs.Given.{lists_of}
use Rattle.crp_chains.proofs.Gaining.{gain_bound}
use Rattle.crp_chains.proofs.Blockers.{each_push}
use Rattle.crp_chains.proofs.Families.{zeros, list_at, lists_push, chains_more, occurrences_more, family_made, family_refused, family_apart}
use Rattle.crp_chains.proofs.family.gain_of.Goals as goal

pub loop-ranks-init : goal.loop-ranks-init
loop-ranks-init c = record { made = ([], refl, tt, refl); counted = λ x. zeros 256 x; few = λ x. omega (arith, zeros 256 x); low = omega arith }

pub returns-then-not-mark-clause-none : goal.returns-then-not-mark-clause-none
returns-then-not-mark-clause-none c =
    let s : Position = c.args.position.now.place in
    let i : ℕ = c.loop-ranks.ranks-index in
    let lists : List (List ℕ) = lists_of c.args.family.now in
    let within : i < length lists = omega (arith, length-map c.args.family.now (λ (r : ArrayVec ℕ). r.items), c.loop-ranks-test.true) in
    let here : get_or lists i [] ≡ c.as_slice.result.now = list_at c.args.family.now i c.ranks-item.result c.loop-ranks-test.true c.ranks-item.is ∙ sym c.as_slice.ensures.value in
    let two = c.if-not-mark.ensures.twice in
    family_apart s lists i two.0 within (omega (arith, two.1, c.loop-ranks.invariant.counted two.0, ap (times two.0) here))

pub returns-in_default-clause-none : goal.returns-in_default-clause-none
returns-in_default-clause-none c =
    let s : Position = c.args.position.now.place in
    let i : ℕ = c.loop-ranks.ranks-index in
    let lists : List (List ℕ) = lists_of c.args.family.now in
    let within : i < length lists = omega (arith, length-map c.args.family.now (λ (r : ArrayVec ℕ). r.items), c.loop-ranks-test.true) in
    let here : get_or lists i [] ≡ c.as_slice-in-loop-ranks.result.now = list_at c.args.family.now i c.ranks-item.result c.loop-ranks-test.true c.ranks-item.is ∙ sym c.as_slice-in-loop-ranks.ensures.value in
    family_refused s lists i within (λ chain e k. c.in_default.ensures.none chain (e ∙ here) k)

pub loop-ranks-preserved : goal.loop-ranks-preserved
loop-ranks-preserved c =
    let s : Position = c.args.position.now.place in
    let i : ℕ = c.loop-ranks.ranks-index in
    let lists : List (List ℕ) = lists_of c.args.family.now in
    let within : i < length lists = omega (arith, length-map c.args.family.now (λ (r : ArrayVec ℕ). r.items), c.loop-ranks-test.true) in
    let item : get_or lists i [] ≡ c.ranks-item.result.items = list_at c.args.family.now i c.ranks-item.result c.loop-ranks-test.true c.ranks-item.is in
    let made = c.loop-ranks.invariant.made in
    let more = c.in-Some.ensures.gain in
    let ranks : ranks_of more.0 ≡ get_or lists i [] = more.1 ∙ c.as_slice-in-loop-ranks.ensures.value ∙ sym item in
    record {
      made = (
        made.0 ++ more.0 ∷ [],
        lists_push made.0 more.0 ∙ ap (λ l. l ++ ranks_of more.0 ∷ []) made.1 ∙ ap (λ r. take i lists ++ r ∷ []) ranks ∙ sym (take_more lists i [] within),
        each_push (IsChain s) made.0 more.0 made.2 more.2,
        omega (arith, made.3, more.3, chains_more s made.0 more.0),
      );
      counted = λ x. omega (arith, c.if-not-mark.ensures.counted x, c.loop-ranks.invariant.counted x, occurrences_more x lists i within, ap (times x) (item ∙ sym c.as_slice.ensures.value));
      few = c.if-not-mark.ensures.few;
      low = omega (arith, c.loop-ranks.invariant.low, c.in-Some.ensures.few);
    }

pub returns-clause-below_every_run : goal.returns-clause-below_every_run
returns-clause-below_every_run c moves k =
    let s : Position = c.args.position.now.place in
    let i : ℕ = c.loop-ranks.ranks-index in
    let lists : List (List ℕ) = lists_of c.args.family.now in
    let inv = c.loop-ranks.invariant in
    let made = inv.made in
    let f = family_made s c.loop-ranks.seen (take i lists) made.0 made.1 made.2 inv.counted inv.few in
    omega (arith, made.3, gain_bound s made.0 moves k.0 (reached_sound s c.next-next.ensures.reached) f k.1 k.2)
