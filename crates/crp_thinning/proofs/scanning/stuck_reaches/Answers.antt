use Rattle.std.proofs.Common.{◌≡◌, ℕ, ◌+◌, ◌-◌, ◌<◌, ◌≤◌, max, false, List, [], length, take, get_or, set, refl, sym, ap, ◌∙◌, subst, arith, length-set}
use Rattle.crp_plan.specs.Rows.{holds}
use Rattle.crp_plan.specs.Bay.{Position}
use Rattle.crp_plan.proofs.Lists.{times, at_le_sum}
use Rattle.crp_plan.proofs.Steps.{same_rows}
use Rattle.std.proofs.lemmas.Option.{slice_get-get_or}
use Rattle.crp_bay.proofs.Tops.{any_default}
use Rattle.crp_bay.specs.Located.{AreRowsOf}
use Rattle.crp_bounds.specs.Bounds.{stuck_now}
use Rattle.crp_bounds.specs.Leasts.{least_ordered}
use Rattle.crp_bounds.specs.Offers.{offers, greatest}
use Rattle.crp_bounds.proofs.Cutting.{times_take}
use Rattle.crp_bounds.proofs.Tallying.{ahead_ends}
use Rattle.crp_bounds.proofs.Remaining.{Remains, remains_most, remains_absent}
use Rattle.crp_thinning.proofs.Scans.{says_no, says_yes, says_test, bay_thin, most_thin, begins_thin, AreLeasts, leasts_begin, leasts_cut, part, part_nil, held_thin, absent_thin, Turned, turned_thin}
use Rattle.crp_thinning.proofs.scanning.stuck_reaches.Goals as goal
use Rattle.crp_thinning.proofs.scanning.stuck_reaches.Goals.{then-index-stacks+then-leasts-index+else-most+else-need-again+else-again-still, then-index-stacks+else-leasts-index, else-index-stacks}

pub returns-then-blocking-need : goal.returns-then-blocking-need
returns-then-blocking-need c =
    let s : Position = c.args.track.now.place in
    says_no c.args.need (stuck_now s) (omega (arith, most_thin _ s c.ordered-ordered.ensures.fine (omega (arith, c.requires.few, c.requires.blocking)), c.requires.blocking, c.if-blocking-need.true))

pub begun-most-requires-clause-same : goal.begun-most-requires-clause-same
begun-most-requires-clause-same c =
    let s : Position = c.args.track.now.place in let f = c.stacks-stacks.ensures.fine in
    omega (arith, ap length c.stacks-stacks.ensures.value, ap length c.heights.ensures.value, same_rows s.heights s.stacks f.stacks_fit)

pub loop-rank-init : goal.loop-rank-init
loop-rank-init c =
    let s : Position = c.args.track.now.place in
    let all : (r : ℕ) → get_or c.begun-most.new.left r 0 ≡ length (get_or s.stacks r []) = λ r. c.begun-most.ensures.left r ∙ ap (λ l. length (get_or l r [])) c.stacks-stacks.ensures.value in
    record {
      remains = begins_thin _ s c.begun-most.new.left c.begun-most.result c.next-rank.result c.args.blocking c.ordered-ordered.ensures.fine
          all
          (c.begun-most.ensures.most ∙ ap (λ o. greatest (offers o c.heights.result.now c.stacks-stacks.result.now)) c.ordered-ordered.ensures.value ∙ ap (λ h. greatest (offers s.ordered h c.stacks-stacks.result.now)) c.heights.ensures.value ∙ ap (λ l. greatest (offers s.ordered s.heights l)) c.stacks-stacks.ensures.value)
          c.begun-most.ensures.long c.next-rank.ensures.value c.requires.blocking c.requires.few;
      leasts = leasts_begin s.ordered s.stacks c.begun-most.new.left c.begun-most.new.leasts all (λ r lt.
          c.begun-most.ensures.leasts r (omega (arith, ap length c.stacks-stacks.ensures.value))
          ∙ ap (λ o. least_ordered o (get_or c.stacks-stacks.result.now r [])) c.ordered-ordered.ensures.value ∙ ap (λ l. least_ordered s.ordered (get_or l r [])) c.stacks-stacks.ensures.value);
      long = c.begun-most.ensures.leasts_long;
    }

pub bounds-left-index : goal.bounds-left-index
bounds-left-index c =
    let s : Position = c.args.track.now.place in let f = c.stacks-stacks.ensures.fine in let few = f.few_rows in
    omega (arith, c.if-index-stacks.true, ap length c.stacks-stacks.ensures.value, same_rows s.heights s.stacks f.stacks_fit)

pub bounds-leasts-index : goal.bounds-leasts-index
bounds-leasts-index c =
    let s : Position = c.args.track.now.place in let f = c.stacks-stacks.ensures.fine in let few = f.few_rows in
    omega (arith, c.if-index-stacks.true, ap length c.stacks-stacks.ensures.value, same_rows s.heights s.stacks f.stacks_fit)

pub returns-then-most : goal.returns-then-most
returns-then-most c =
    let s : Position = c.args.track.now.place in let f = c.ordered-ordered.ensures.fine in
    let all : c.loop-rank.again ≡ stuck_now s = ahead_ends s.ordered s.next s.heights s.stacks c.loop-rank.rank c.loop-rank.left c.loop-rank.most c.loop-rank.again c.loop-rank.invariant.remains.ahead (omega (arith, c.ordered-ordered.ensures.value, c.loop-rank-test.true)) f.few_ordered c.if-most.true in
    says_test c.args.need c.loop-rank.again (stuck_now s) all

pub cut_at_rank-more-requires-clause-held : goal.cut_at_rank-more-requires-clause-held
cut_at_rank-more-requires-clause-held c =
    let s : Position = c.args.track.now.place in let k : ℕ = c.loop-rank.rank in let i : ℕ = get_or c.row_of-row_of.result.now c.loop-rank.rank 0 in
    let le : k ≤ s.ordered = omega (arith, c.ordered-ordered.ensures.value, c.loop-rank-test.true) in
    let here : get_or s.stacks i [] ≡ c.ranks.result.now = ap (λ l. get_or l i []) (sym c.stacks-stacks.ensures.value) ∙ any_default c.stacks-stacks.result.now i [] c.index-stacks-index.result c.if-index-stacks.true ∙ sym c.index-stacks-index.is ∙ sym c.ranks.ensures.value in
    let f = c.ordered-ordered.ensures.fine in
    let least_is : least_ordered s.ordered (part c.loop-rank.left i c.ranks.result.now) ≡ k = ap (λ st. least_ordered s.ordered (part c.loop-rank.left i st)) (sym here) ∙ sym (c.loop-rank.invariant.leasts i (omega (arith, c.if-index-stacks.true, ap length c.stacks-stacks.ensures.value))) ∙ c.if-leasts-index.true in
    (held_thin s k i c.loop-rank.left c.ranks.result.now c.loop-rank.most c.loop-rank.again f.few_ordered here c.loop-rank.invariant.remains.ahead le).0 least_is

pub cut_at_rank-more-requires-clause-once : goal.cut_at_rank-more-requires-clause-once
cut_at_rank-more-requires-clause-once c =
    let s : Position = c.args.track.now.place in let k : ℕ = c.loop-rank.rank in let i : ℕ = get_or c.row_of-row_of.result.now c.loop-rank.rank 0 in
    let le : k ≤ s.ordered = omega (arith, c.ordered-ordered.ensures.value, c.loop-rank-test.true) in
    let here : get_or s.stacks i [] ≡ c.ranks.result.now = ap (λ l. get_or l i []) (sym c.stacks-stacks.ensures.value) ∙ any_default c.stacks-stacks.result.now i [] c.index-stacks-index.result c.if-index-stacks.true ∙ sym c.index-stacks-index.is ∙ sym c.ranks.ensures.value in
    let f = c.ordered-ordered.ensures.fine in
    let once : times k (part c.loop-rank.left i c.ranks.result.now) ≤ 1 =
    omega (arith, times_take k (get_or c.loop-rank.left i 0) c.ranks.result.now, ap (times k) here, at_le_sum (times k) s.stacks i (get_or s.stacks i []) (slice_get-get_or s.stacks i [] (omega (arith, c.if-index-stacks.true, ap length c.stacks-stacks.ensures.value))), f.once k) in
    once

pub returns-then-need-again : goal.returns-then-need-again
returns-then-need-again c =
    let s : Position = c.args.track.now.place in let k : ℕ = c.loop-rank.rank in let i : ℕ = get_or c.row_of-row_of.result.now c.loop-rank.rank 0 in
    let le : k ≤ s.ordered = omega (arith, c.ordered-ordered.ensures.value, c.loop-rank-test.true) in
    let here : get_or s.stacks i [] ≡ c.ranks.result.now = ap (λ l. get_or l i []) (sym c.stacks-stacks.ensures.value) ∙ any_default c.stacks-stacks.result.now i [] c.index-stacks-index.result c.if-index-stacks.true ∙ sym c.index-stacks-index.is ∙ sym c.ranks.ensures.value in
    let f = c.ordered-ordered.ensures.fine in
    let least_is : least_ordered s.ordered (part c.loop-rank.left i c.ranks.result.now) ≡ k = ap (λ st. least_ordered s.ordered (part c.loop-rank.left i st)) (sym here) ∙ sym (c.loop-rank.invariant.leasts i (omega (arith, c.if-index-stacks.true, ap length c.stacks-stacks.ensures.value))) ∙ c.if-leasts-index.true in
    let cut = c.cut_at_rank-more in
    let t : Turned s k i c.ranks.result.now c.loop-rank.left c.loop-rank.most c.loop-rank.again c.loop-rank.still cut.result.kept cut.result.more =
    turned_thin _ s k i c.ranks.result.now c.loop-rank.left c.loop-rank.most c.loop-rank.again c.loop-rank.still cut.result.kept cut.result.more f c.loop-rank.invariant.remains le (omega (arith, c.if-index-stacks.true, ap length c.stacks-stacks.ensures.value)) here
    (record { least_is = least_is; below_it = cut.ensures.below; lower = cut.ensures.lower; counts = cut.ensures.more; few = cut.ensures.few }) in
    let most = t.counted_most in
    says_yes c.args.need (stuck_now s) (omega (arith, c.if-need-again.true))

pub overflow_sub-still-then-leasts-index-2 : goal.overflow_sub-still-then-leasts-index-2
overflow_sub-still-then-leasts-index-2 c =
    let s : Position = c.args.track.now.place in let k : ℕ = c.loop-rank.rank in let i : ℕ = get_or c.row_of-row_of.result.now c.loop-rank.rank 0 in
    let le : k ≤ s.ordered = omega (arith, c.ordered-ordered.ensures.value, c.loop-rank-test.true) in
    let here : get_or s.stacks i [] ≡ c.ranks.result.now = ap (λ l. get_or l i []) (sym c.stacks-stacks.ensures.value) ∙ any_default c.stacks-stacks.result.now i [] c.index-stacks-index.result c.if-index-stacks.true ∙ sym c.index-stacks-index.is ∙ sym c.ranks.ensures.value in
    let f = c.ordered-ordered.ensures.fine in
    let least_is : least_ordered s.ordered (part c.loop-rank.left i c.ranks.result.now) ≡ k = ap (λ st. least_ordered s.ordered (part c.loop-rank.left i st)) (sym here) ∙ sym (c.loop-rank.invariant.leasts i (omega (arith, c.if-index-stacks.true, ap length c.stacks-stacks.ensures.value))) ∙ c.if-leasts-index.true in
    let cut = c.cut_at_rank-more in
    let t : Turned s k i c.ranks.result.now c.loop-rank.left c.loop-rank.most c.loop-rank.again c.loop-rank.still cut.result.kept cut.result.more =
    turned_thin _ s k i c.ranks.result.now c.loop-rank.left c.loop-rank.most c.loop-rank.again c.loop-rank.still cut.result.kept cut.result.more f c.loop-rank.invariant.remains le (omega (arith, c.if-index-stacks.true, ap length c.stacks-stacks.ensures.value)) here
    (record { least_is = least_is; below_it = cut.ensures.below; lower = cut.ensures.lower; counts = cut.ensures.more; few = cut.ensures.few }) in
    t.within

pub returns-then-again-still : goal.returns-then-again-still
returns-then-again-still c =
    let s : Position = c.args.track.now.place in let k : ℕ = c.loop-rank.rank in let i : ℕ = get_or c.row_of-row_of.result.now c.loop-rank.rank 0 in
    let le : k ≤ s.ordered = omega (arith, c.ordered-ordered.ensures.value, c.loop-rank-test.true) in
    let here : get_or s.stacks i [] ≡ c.ranks.result.now = ap (λ l. get_or l i []) (sym c.stacks-stacks.ensures.value) ∙ any_default c.stacks-stacks.result.now i [] c.index-stacks-index.result c.if-index-stacks.true ∙ sym c.index-stacks-index.is ∙ sym c.ranks.ensures.value in
    let f = c.ordered-ordered.ensures.fine in
    let least_is : least_ordered s.ordered (part c.loop-rank.left i c.ranks.result.now) ≡ k = ap (λ st. least_ordered s.ordered (part c.loop-rank.left i st)) (sym here) ∙ sym (c.loop-rank.invariant.leasts i (omega (arith, c.if-index-stacks.true, ap length c.stacks-stacks.ensures.value))) ∙ c.if-leasts-index.true in
    let cut = c.cut_at_rank-more in
    let t : Turned s k i c.ranks.result.now c.loop-rank.left c.loop-rank.most c.loop-rank.again c.loop-rank.still cut.result.kept cut.result.more =
    turned_thin _ s k i c.ranks.result.now c.loop-rank.left c.loop-rank.most c.loop-rank.again c.loop-rank.still cut.result.kept cut.result.more f c.loop-rank.invariant.remains le (omega (arith, c.if-index-stacks.true, ap length c.stacks-stacks.ensures.value)) here
    (record { least_is = least_is; below_it = cut.ensures.below; lower = cut.ensures.lower; counts = cut.ensures.more; few = cut.ensures.few }) in
    says_no c.args.need (stuck_now s) (omega (arith, remains_most s.ordered s.next s.heights s.stacks (k + 1) (set c.loop-rank.left i cut.result.kept) (max c.loop-rank.most (least_ordered s.ordered (take cut.result.kept (part c.loop-rank.left i c.ranks.result.now)))) (c.loop-rank.again + cut.result.more) (c.loop-rank.still - (length (part c.loop-rank.left i c.ranks.result.now) - 1 - cut.result.kept)) t.remains (bay_thin _ s f) (omega arith), c.if-again-still.true))

pub loop-rank-preserved : goal.loop-rank-preserved
loop-rank-preserved c =
    let s : Position = c.args.track.now.place in let k : ℕ = c.loop-rank.rank in let i : ℕ = get_or c.row_of-row_of.result.now c.loop-rank.rank 0 in
    let goes : List ℕ → ℕ → ℕ → ℕ → Type 0 = λ left most again still. Remains s.ordered s.next s.heights s.stacks (k + 1) left most again still in
    let le : k ≤ s.ordered = omega (arith, c.ordered-ordered.ensures.value, c.loop-rank-test.true) in
    let f = c.ordered-ordered.ensures.fine in
    let are : AreRowsOf (length s.stacks) s.stacks c.row_of-row_of.result.now = c.row_of-row_of.ensures in
    let passes : holds k (part c.loop-rank.left i (get_or s.stacks i [])) ≡ false → goes c.loop-rank.left c.loop-rank.most c.loop-rank.again c.loop-rank.still = λ none.
    remains_absent s.ordered s.next s.heights s.stacks k c.loop-rank.left c.loop-rank.most c.loop-rank.again c.loop-rank.still c.loop-rank.invariant.remains (f.once k) le (absent_thin s.stacks c.row_of-row_of.result.now c.loop-rank.left k i are refl none) in
    elim c.if-index-stacks.branch [
      | then-index-stacks+then-leasts-index+else-most+else-need-again+else-again-still w ↦
          let le : k ≤ s.ordered = omega (arith, c.ordered-ordered.ensures.value, c.loop-rank-test.true) in
          let here : get_or s.stacks i [] ≡ w.ranks.result.now = ap (λ l. get_or l i []) (sym c.stacks-stacks.ensures.value) ∙ any_default c.stacks-stacks.result.now i [] w.index-stacks-index.result w.if-index-stacks.true ∙ sym w.index-stacks-index.is ∙ sym w.ranks.ensures.value in
          let f = c.ordered-ordered.ensures.fine in
          let least_is : least_ordered s.ordered (part c.loop-rank.left i w.ranks.result.now) ≡ k = ap (λ st. least_ordered s.ordered (part c.loop-rank.left i st)) (sym here) ∙ sym (c.loop-rank.invariant.leasts i (omega (arith, w.if-index-stacks.true, ap length c.stacks-stacks.ensures.value))) ∙ w.if-leasts-index.true in
          let cut = w.cut_at_rank-more in
          let t : Turned s k i w.ranks.result.now c.loop-rank.left c.loop-rank.most c.loop-rank.again c.loop-rank.still cut.result.kept cut.result.more =
          turned_thin _ s k i w.ranks.result.now c.loop-rank.left c.loop-rank.most c.loop-rank.again c.loop-rank.still cut.result.kept cut.result.more f c.loop-rank.invariant.remains le (omega (arith, w.if-index-stacks.true, ap length c.stacks-stacks.ensures.value)) here
          (record { least_is = least_is; below_it = cut.ensures.below; lower = cut.ensures.lower; counts = cut.ensures.more; few = cut.ensures.few }) in
          let least : w.least_of-least.result ≡ least_ordered s.ordered (take cut.result.kept (part c.loop-rank.left i w.ranks.result.now)) = w.least_of-least.ensures ∙ ap (λ o. least_ordered o (take cut.result.kept (part c.loop-rank.left i w.ranks.result.now))) c.ordered-ordered.ensures.value in
          let low : i < 16 = omega (arith, w.if-index-stacks.true, ap length c.stacks-stacks.ensures.value, same_rows s.heights s.stacks f.stacks_fit, f.few_rows) in
          let old = c.loop-rank.invariant.remains.ahead in
          record {
            leasts = subst (AreLeasts s.ordered s.stacks c.if-index-stacks.left) (sym w.leasts-is) (subst (λ l. AreLeasts s.ordered s.stacks l (set c.loop-rank.leasts i w.least_of-least.result)) (sym w.left-is)
                (leasts_cut s.ordered s.stacks c.loop-rank.left c.loop-rank.leasts w.ranks.result.now i cut.result.kept w.least_of-least.result c.loop-rank.invariant.leasts (omega (arith, low, old.left_long)) (omega (arith, low, c.loop-rank.invariant.long)) here cut.ensures.lower least));
            long = ap length w.leasts-is ∙ length-set c.loop-rank.leasts i w.least_of-least.result ∙ c.loop-rank.invariant.long;
            remains = subst (λ l. goes l c.if-index-stacks.most c.if-index-stacks.again c.if-index-stacks.still) (sym w.left-is)
                (subst (λ o. goes (set c.loop-rank.left i cut.result.kept) o c.if-index-stacks.again c.if-index-stacks.still) (sym (w.most-is ∙ w.max-most.ensures ∙ ap (max c.loop-rank.most) least))
                (subst (λ n. goes (set c.loop-rank.left i cut.result.kept) (max c.loop-rank.most (least_ordered s.ordered (take cut.result.kept (part c.loop-rank.left i w.ranks.result.now)))) n c.if-index-stacks.still) (sym w.again-is)
                (subst (λ n. goes (set c.loop-rank.left i cut.result.kept) (max c.loop-rank.most (least_ordered s.ordered (take cut.result.kept (part c.loop-rank.left i w.ranks.result.now)))) (c.loop-rank.again + cut.result.more) n) (sym w.still-is) t.remains)));
          }
      | then-index-stacks+else-leasts-index w ↦
          let le : k ≤ s.ordered = omega (arith, c.ordered-ordered.ensures.value, c.loop-rank-test.true) in
          let f = c.ordered-ordered.ensures.fine in
          let lt : i < length s.stacks = omega (arith, w.if-index-stacks.true, ap length c.stacks-stacks.ensures.value) in
          let none = (held_thin s k i c.loop-rank.left (get_or s.stacks i []) c.loop-rank.most c.loop-rank.again f.few_ordered refl c.loop-rank.invariant.remains.ahead le).1 (λ e. w.if-leasts-index.false (c.loop-rank.invariant.leasts i lt ∙ e)) in
          record {
            leasts = subst (AreLeasts s.ordered s.stacks c.if-index-stacks.left) (sym w.leasts-is) (subst (λ l. AreLeasts s.ordered s.stacks l c.loop-rank.leasts) (sym w.left-is) c.loop-rank.invariant.leasts);
            long = ap length w.leasts-is ∙ c.loop-rank.invariant.long;
            remains = subst (λ l. goes l c.if-index-stacks.most c.if-index-stacks.again c.if-index-stacks.still) (sym w.left-is)
                (subst (λ o. goes c.loop-rank.left o c.if-index-stacks.again c.if-index-stacks.still) (sym w.most-is)
                (subst (λ n. goes c.loop-rank.left c.loop-rank.most n c.if-index-stacks.still) (sym w.again-is)
                (subst (λ n. goes c.loop-rank.left c.loop-rank.most c.loop-rank.again n) (sym w.still-is)
                (passes none))));
          }
      | else-index-stacks w ↦
          let none = part_nil k i c.loop-rank.left s.stacks (omega (arith, w.if-index-stacks.false, ap length c.stacks-stacks.ensures.value)) in
          record {
            leasts = subst (AreLeasts s.ordered s.stacks c.if-index-stacks.left) (sym w.leasts-is) (subst (λ l. AreLeasts s.ordered s.stacks l c.loop-rank.leasts) (sym w.left-is) c.loop-rank.invariant.leasts);
            long = ap length w.leasts-is ∙ c.loop-rank.invariant.long;
            remains = subst (λ l. goes l c.if-index-stacks.most c.if-index-stacks.again c.if-index-stacks.still) (sym w.left-is)
                (subst (λ o. goes c.loop-rank.left o c.if-index-stacks.again c.if-index-stacks.still) (sym w.most-is)
                (subst (λ n. goes c.loop-rank.left c.loop-rank.most n c.if-index-stacks.still) (sym w.again-is)
                (subst (λ n. goes c.loop-rank.left c.loop-rank.most c.loop-rank.again n) (sym w.still-is)
                (passes none))));
          }
    ]
