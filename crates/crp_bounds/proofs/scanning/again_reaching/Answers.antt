use Rattle.std.proofs.Common.{◌≡◌, ℕ, suc, ◌+◌, ◌-◌, ◌<◌, ◌≤◌, max, List, [], length, take, get_or, set, sym, ap, ◌∙◌, subst, arith}
use Rattle.std.specs.Prelude.{IfNone}
use Rattle.std.proofs.lemmas.Option.{IfSome_then}
use Rattle.std.proofs.lemmas.List.{length-take-le, length-take, get_or-take}
use Rattle.crp_plan.specs.Bay.{Position}
use Rattle.crp_plan.proofs.Lists.{times}
use Rattle.crp_bay.proofs.Reaching.{reached_sound, reached_rows, reached_ordered}
use Rattle.crp_bounds.specs.Bounds.{stuck_now}
use Rattle.crp_bounds.specs.Leasts.{least_ordered}
use Rattle.crp_bounds.proofs.Marking.{once_in}
use Rattle.crp_bounds.proofs.Cutting.{times_take}
use Rattle.crp_bounds.proofs.Tallying.{ahead_ends}
use Rattle.crp_bounds.proofs.Scanned.{bay_of, Reads, reads, part_few, held_test, open_now}
use Rattle.crp_bounds.proofs.Remaining.{Remains, Turned, turned, remains_begins, remains_most, remains_absent, stuck_most}
use Rattle.crp_bounds.proofs.Clear.{IsCutOff, cut_off_begins, cut_off_absent, cut_off_met, clear_test, clear_least, known_part}
use Rattle.crp_bounds.proofs.scanning.again_reaching.Goals as goal
use Rattle.crp_bounds.proofs.scanning.again_reaching.Goals.{then-leasts-rank+else-most-eq255+else-enough-again+else-again-still, else-leasts-rank}

pub returns-then-blocking-need-clause-short : goal.returns-then-blocking-need-clause-short
returns-then-blocking-need-clause-short c = let most = stuck_most c.args.position.now.place c.ordered-ordered.ensures.reached in omega (arith, most, c.requires.blocking)

pub returns-in_default-clause-most : goal.returns-in_default-clause-most
returns-in_default-clause-most c =
    let none = open_now c.args.position.now.place c.ordered-ordered.ensures.reached c.in_default.ensures.open in
    IfSome_then c.if_reached.result c.if_reached.ensures.value (λ again e. omega (arith, e))

pub returns-in_default-clause-all : goal.returns-in_default-clause-all
returns-in_default-clause-all c =
    let none = open_now c.args.position.now.place c.ordered-ordered.ensures.reached c.in_default.ensures.open in
    IfSome_then c.if_reached.result c.if_reached.ensures.value (λ again e. λ lt. omega (arith, e))

pub returns-in_default-clause-short : goal.returns-in_default-clause-short
returns-in_default-clause-short c =
    subst (λ n. IfNone c.if_reached.result (n < c.args.need)) (sym (open_now c.args.position.now.place c.ordered-ordered.ensures.reached c.in_default.ensures.open)) c.if_reached.ensures.short

pub overflow_add-rank-end : goal.overflow_add-rank-end
overflow_add-rank-end c = omega (arith, c.ordered-ordered.ensures.value, reached_ordered c.args.position.now.place c.ordered-ordered.ensures.reached)

pub loop-rank-init : goal.loop-rank-init
loop-rank-init c = record {
  remains = remains_begins c.args.position.now.place c.begun.new.left c.in-Some.most c.next-rank.result c.args.blocking c.ordered-ordered.ensures.reached c.in-Some.ensures.left c.in-Some.ensures.most c.begun.ensures.long c.next-rank.ensures.value c.requires.blocking;
  cut_off = cut_off_begins c.args.position.now.place.ordered c.args.position.now.place.stacks c.next-rank.result c.begun.new.left c.in-Some.ensures.left;
}

pub bounds-left-row : goal.bounds-left-row
bounds-left-row c = omega (arith, c.stack_of-row.ensures.there, (reached_rows c.args.position.now.place c.ordered-ordered.ensures.reached).1)

pub slice_bounds-stack-end : goal.slice_bounds-stack-end
slice_bounds-stack-end c =
    let r : Reads c.args.position.now.place c.loop-rank.rank c.stack_of-row.result.0 c.stack_of-row.result.1.now c.loop-rank.left = reads c.args.position.now.place c.loop-rank.rank c.stack_of-row.result.0 c.stack_of-row.result.1.now c.loop-rank.left c.ordered-ordered.ensures.reached c.stack_of-row.ensures.index c.stack_of-row.ensures.there c.stack_of-row.ensures.value c.loop-rank.invariant.remains.ahead.within in
    sym (length-take-le (get_or c.loop-rank.left c.stack_of-row.result.0 0) c.stack_of-row.result.1.now r.within)

pub returns-then-most-eq255-clause-most : goal.returns-then-most-eq255-clause-most
returns-then-most-eq255-clause-most c =
    let s : Position = c.args.position.now.place in
    let all : c.loop-rank.again ≡ stuck_now s = ahead_ends s.ordered s.next s.heights s.stacks c.loop-rank.rank c.loop-rank.left c.loop-rank.most c.loop-rank.again c.loop-rank.invariant.remains.ahead (omega (arith, c.ordered-ordered.ensures.value)) (reached_ordered s c.ordered-ordered.ensures.reached) c.if-most-eq255.true in
    IfSome_then c.if_reached-then-most-eq255.result c.if_reached-then-most-eq255.ensures.value (λ again e. omega (arith, e, all))

pub returns-then-most-eq255-clause-all : goal.returns-then-most-eq255-clause-all
returns-then-most-eq255-clause-all c =
    let s : Position = c.args.position.now.place in
    let all : c.loop-rank.again ≡ stuck_now s = ahead_ends s.ordered s.next s.heights s.stacks c.loop-rank.rank c.loop-rank.left c.loop-rank.most c.loop-rank.again c.loop-rank.invariant.remains.ahead (omega (arith, c.ordered-ordered.ensures.value)) (reached_ordered s c.ordered-ordered.ensures.reached) c.if-most-eq255.true in
    IfSome_then c.if_reached-then-most-eq255.result c.if_reached-then-most-eq255.ensures.value (λ again e. λ lt. e ∙ all)

pub returns-then-most-eq255-clause-short : goal.returns-then-most-eq255-clause-short
returns-then-most-eq255-clause-short c =
    let s : Position = c.args.position.now.place in
    subst (λ n. IfNone c.if_reached-then-most-eq255.result (n < c.args.need))
    (ahead_ends s.ordered s.next s.heights s.stacks c.loop-rank.rank c.loop-rank.left c.loop-rank.most c.loop-rank.again c.loop-rank.invariant.remains.ahead (omega (arith, c.ordered-ordered.ensures.value)) (reached_ordered s c.ordered-ordered.ensures.reached) c.if-most-eq255.true)
    c.if_reached-then-most-eq255.ensures.short

pub cut_at_rank-more-requires-clause-held : goal.cut_at_rank-more-requires-clause-held
cut_at_rank-more-requires-clause-held c =
    let s : Position = c.args.position.now.place in
    let k : ℕ = c.loop-rank.rank in
    let row : ℕ = c.stack_of-row.result.0 in
    let le : k ≤ s.ordered = omega (arith, c.ordered-ordered.ensures.value) in
    let r : Reads s k row c.stack_of-row.result.1.now c.loop-rank.left = reads s k row c.stack_of-row.result.1.now c.loop-rank.left c.ordered-ordered.ensures.reached c.stack_of-row.ensures.index c.stack_of-row.ensures.there c.stack_of-row.ensures.value c.loop-rank.invariant.remains.ahead.within in
    let part : List ℕ = take (get_or c.loop-rank.left row 0) c.stack_of-row.result.1.now in
    let least_is : least_ordered s.ordered part ≡ k = clear_least s k row c.stack_of-row.result.1.now c.loop-rank.left c.args.leasts.now c.loop-rank.most c.loop-rank.again c.ordered-ordered.ensures.reached c.requires.known r c.loop-rank.invariant.remains.ahead c.loop-rank.invariant.cut_off (omega (arith, c.next-rank.ensures.value)) le c.if-leasts-rank.true in
    (held_test s k row c.stack_of-row.result.1.now c.loop-rank.left c.loop-rank.most c.loop-rank.again c.ordered-ordered.ensures.reached r c.loop-rank.invariant.remains.ahead le).0 least_is

pub cut_at_rank-more-requires-clause-once : goal.cut_at_rank-more-requires-clause-once
cut_at_rank-more-requires-clause-once c =
    let s : Position = c.args.position.now.place in
    let once : times c.loop-rank.rank (take (get_or c.loop-rank.left c.stack_of-row.result.0 0) c.stack_of-row.result.1.now) ≤ 1 =
    omega (arith, times_take c.loop-rank.rank (get_or c.loop-rank.left c.stack_of-row.result.0 0) c.stack_of-row.result.1.now, once_in s c.stack_of-row.result.0 c.stack_of-row.result.1.now (reached_sound s c.ordered-ordered.ensures.reached) c.stack_of-row.ensures.value c.loop-rank.rank) in
    once

pub returns-then-enough-again-clause-most : goal.returns-then-enough-again-clause-most
returns-then-enough-again-clause-most c =
    let s : Position = c.args.position.now.place in
    let k : ℕ = c.loop-rank.rank in
    let row : ℕ = c.stack_of-row.result.0 in
    let le : k ≤ s.ordered = omega (arith, c.ordered-ordered.ensures.value) in
    let r : Reads s k row c.stack_of-row.result.1.now c.loop-rank.left = reads s k row c.stack_of-row.result.1.now c.loop-rank.left c.ordered-ordered.ensures.reached c.stack_of-row.ensures.index c.stack_of-row.ensures.there c.stack_of-row.ensures.value c.loop-rank.invariant.remains.ahead.within in
    let part : List ℕ = take (get_or c.loop-rank.left row 0) c.stack_of-row.result.1.now in
    let least_is : least_ordered s.ordered part ≡ k = clear_least s k row c.stack_of-row.result.1.now c.loop-rank.left c.args.leasts.now c.loop-rank.most c.loop-rank.again c.ordered-ordered.ensures.reached c.requires.known r c.loop-rank.invariant.remains.ahead c.loop-rank.invariant.cut_off (omega (arith, c.next-rank.ensures.value)) le c.if-leasts-rank.true in
    let cut = c.cut_at_rank-more in
    let t : Turned s k row c.stack_of-row.result.1.now c.loop-rank.left c.loop-rank.most c.loop-rank.again c.loop-rank.still cut.result.kept cut.result.more =
    turned s k row c.stack_of-row.result.1.now c.loop-rank.left c.loop-rank.most c.loop-rank.again c.loop-rank.still cut.result.kept cut.result.more c.loop-rank.invariant.remains c.ordered-ordered.ensures.reached le r c.stack_of-row.ensures.ranks least_is cut.ensures.below cut.ensures.lower cut.ensures.more cut.ensures.few in
    t.counted_most

pub overflow_sub-still-then-leasts-rank-2 : goal.overflow_sub-still-then-leasts-rank-2
overflow_sub-still-then-leasts-rank-2 c =
    let s : Position = c.args.position.now.place in
    let k : ℕ = c.loop-rank.rank in
    let row : ℕ = c.stack_of-row.result.0 in
    let le : k ≤ s.ordered = omega (arith, c.ordered-ordered.ensures.value) in
    let r : Reads s k row c.stack_of-row.result.1.now c.loop-rank.left = reads s k row c.stack_of-row.result.1.now c.loop-rank.left c.ordered-ordered.ensures.reached c.stack_of-row.ensures.index c.stack_of-row.ensures.there c.stack_of-row.ensures.value c.loop-rank.invariant.remains.ahead.within in
    let part : List ℕ = take (get_or c.loop-rank.left row 0) c.stack_of-row.result.1.now in
    let least_is : least_ordered s.ordered part ≡ k = clear_least s k row c.stack_of-row.result.1.now c.loop-rank.left c.args.leasts.now c.loop-rank.most c.loop-rank.again c.ordered-ordered.ensures.reached c.requires.known r c.loop-rank.invariant.remains.ahead c.loop-rank.invariant.cut_off (omega (arith, c.next-rank.ensures.value)) le c.if-leasts-rank.true in
    let cut = c.cut_at_rank-more in
    let t : Turned s k row c.stack_of-row.result.1.now c.loop-rank.left c.loop-rank.most c.loop-rank.again c.loop-rank.still cut.result.kept cut.result.more =
    turned s k row c.stack_of-row.result.1.now c.loop-rank.left c.loop-rank.most c.loop-rank.again c.loop-rank.still cut.result.kept cut.result.more c.loop-rank.invariant.remains c.ordered-ordered.ensures.reached le r c.stack_of-row.ensures.ranks least_is cut.ensures.below cut.ensures.lower cut.ensures.more cut.ensures.few in
    t.within

pub returns-then-again-still-clause-short : goal.returns-then-again-still-clause-short
returns-then-again-still-clause-short c =
    let s : Position = c.args.position.now.place in
    let k : ℕ = c.loop-rank.rank in
    let row : ℕ = c.stack_of-row.result.0 in
    let le : k ≤ s.ordered = omega (arith, c.ordered-ordered.ensures.value) in
    let r : Reads s k row c.stack_of-row.result.1.now c.loop-rank.left = reads s k row c.stack_of-row.result.1.now c.loop-rank.left c.ordered-ordered.ensures.reached c.stack_of-row.ensures.index c.stack_of-row.ensures.there c.stack_of-row.ensures.value c.loop-rank.invariant.remains.ahead.within in
    let part : List ℕ = take (get_or c.loop-rank.left row 0) c.stack_of-row.result.1.now in
    let least_is : least_ordered s.ordered part ≡ k = clear_least s k row c.stack_of-row.result.1.now c.loop-rank.left c.args.leasts.now c.loop-rank.most c.loop-rank.again c.ordered-ordered.ensures.reached c.requires.known r c.loop-rank.invariant.remains.ahead c.loop-rank.invariant.cut_off (omega (arith, c.next-rank.ensures.value)) le c.if-leasts-rank.true in
    let cut = c.cut_at_rank-more in
    let t : Turned s k row c.stack_of-row.result.1.now c.loop-rank.left c.loop-rank.most c.loop-rank.again c.loop-rank.still cut.result.kept cut.result.more =
    turned s k row c.stack_of-row.result.1.now c.loop-rank.left c.loop-rank.most c.loop-rank.again c.loop-rank.still cut.result.kept cut.result.more c.loop-rank.invariant.remains c.ordered-ordered.ensures.reached le r c.stack_of-row.ensures.ranks least_is cut.ensures.below cut.ensures.lower cut.ensures.more cut.ensures.few in
    omega (arith, remains_most s.ordered s.next s.heights s.stacks (k + 1) (set c.loop-rank.left row cut.result.kept) (max c.loop-rank.most (least_ordered s.ordered (take cut.result.kept part))) (c.loop-rank.again + cut.result.more) (c.loop-rank.still - (length part - 1 - cut.result.kept)) t.remains (bay_of s c.ordered-ordered.ensures.reached) (omega arith), c.if-again-still.true)

pub least_of-requires-clause-ranks : goal.least_of-requires-clause-ranks
least_of-requires-clause-ranks c =
    part_few c.cut_at_rank-more.result.kept (take (get_or c.loop-rank.left c.stack_of-row.result.0 0) c.stack_of-row.result.1.now) (part_few (get_or c.loop-rank.left c.stack_of-row.result.0 0) c.stack_of-row.result.1.now c.stack_of-row.ensures.ranks)

pub least_of-requires-clause-known : goal.least_of-requires-clause-known
least_of-requires-clause-known c =
    let s : Position = c.args.position.now.place in
    let known : (i : ℕ) → i < length c.stack_of-row.result.1.now → get_or c.args.leasts.now (get_or c.stack_of-row.result.1.now i 0) 0 ≡ least_ordered c.ordered-ordered.result (take (suc i) c.stack_of-row.result.1.now) = λ i lt. c.requires.known.known c.stack_of-row.result.0 i c.stack_of-row.result.1.now c.stack_of-row.ensures.value lt ∙ ap (λ o. least_ordered o (take (suc i) c.stack_of-row.result.1.now)) (sym c.ordered-ordered.ensures.value) in
    known_part c.args.leasts.now c.ordered-ordered.result c.cut_at_rank-more.result.kept (take (get_or c.loop-rank.left c.stack_of-row.result.0 0) c.stack_of-row.result.1.now)
    (known_part c.args.leasts.now c.ordered-ordered.result (get_or c.loop-rank.left c.stack_of-row.result.0 0) c.stack_of-row.result.1.now known)

pub loop-rank-preserved : goal.loop-rank-preserved
loop-rank-preserved c =
    let s : Position = c.args.position.now.place in
    let k : ℕ = c.loop-rank.rank in
    let le : k ≤ s.ordered = omega (arith, c.ordered-ordered.ensures.value) in
    let inv = c.loop-rank.invariant in
    let goes : List ℕ → ℕ → ℕ → ℕ → Type 0 = λ left most again still. Remains s.ordered s.next s.heights s.stacks (k + 1) left most again still in
    elim c.if-leasts-rank.branch [
      | then-leasts-rank+else-most-eq255+else-enough-again+else-again-still w ↦
          let row : ℕ = w.stack_of-row.result.0 in
          let r : Reads s k row w.stack_of-row.result.1.now c.loop-rank.left = reads s k row w.stack_of-row.result.1.now c.loop-rank.left c.ordered-ordered.ensures.reached w.stack_of-row.ensures.index w.stack_of-row.ensures.there w.stack_of-row.ensures.value inv.remains.ahead.within in
          let part : List ℕ = take (get_or c.loop-rank.left row 0) w.stack_of-row.result.1.now in
          let least_is : least_ordered s.ordered part ≡ k = clear_least s k row w.stack_of-row.result.1.now c.loop-rank.left c.args.leasts.now c.loop-rank.most c.loop-rank.again c.ordered-ordered.ensures.reached c.requires.known r inv.remains.ahead inv.cut_off (omega (arith, c.next-rank.ensures.value)) le w.if-leasts-rank.true in
          let cut = w.cut_at_rank-more in
          let t : Turned s k row w.stack_of-row.result.1.now c.loop-rank.left c.loop-rank.most c.loop-rank.again c.loop-rank.still cut.result.kept cut.result.more =
          turned s k row w.stack_of-row.result.1.now c.loop-rank.left c.loop-rank.most c.loop-rank.again c.loop-rank.still cut.result.kept cut.result.more inv.remains c.ordered-ordered.ensures.reached le r w.stack_of-row.ensures.ranks least_is cut.ensures.below cut.ensures.lower cut.ensures.more cut.ensures.few in
          let least : w.from.result ≡ least_ordered s.ordered (take cut.result.kept part) = w.from.ensures ∙ w.least_of.ensures ∙ ap (λ o. least_ordered o (take cut.result.kept part)) c.ordered-ordered.ensures.value in
          let found : get_or (get_or s.stacks row []) cut.result.kept 0 ≡ k = ap (λ xs. get_or xs cut.result.kept 0) r.stack_is ∙ sym (get_or-take (get_or c.loop-rank.left row 0) w.stack_of-row.result.1.now cut.result.kept 0 (let low = cut.ensures.lower in omega (arith, length-take (get_or c.loop-rank.left row 0) w.stack_of-row.result.1.now))) ∙ cut.ensures.found in
          record {
            remains = subst (λ l. goes l c.if-leasts-rank.most c.if-leasts-rank.again c.if-leasts-rank.still) (sym w.left-is)
                (subst (λ o. goes (set c.loop-rank.left row cut.result.kept) o c.if-leasts-rank.again c.if-leasts-rank.still) (sym (w.most-is ∙ w.max-most.ensures ∙ ap (max c.loop-rank.most) least))
                (subst (λ n. goes (set c.loop-rank.left row cut.result.kept) (max c.loop-rank.most (least_ordered s.ordered (take cut.result.kept part))) n c.if-leasts-rank.still) (sym w.again-is)
                (subst (λ n. goes (set c.loop-rank.left row cut.result.kept) (max c.loop-rank.most (least_ordered s.ordered (take cut.result.kept part))) (c.loop-rank.again + cut.result.more) n) (sym w.still-is) t.remains)));
            cut_off = subst (IsCutOff s.ordered s.stacks (k + 1)) (sym w.left-is) (cut_off_met s.ordered s.stacks k c.loop-rank.left row cut.result.kept le (let long = inv.remains.ahead.left_long in let rows = (reached_rows s c.ordered-ordered.ensures.reached).1 in let there = r.there in omega arith) found inv.cut_off);
          }
      | else-leasts-rank w ↦
          let sound = reached_sound s c.ordered-ordered.ensures.reached in
          let free = (clear_test s k c.loop-rank.left c.args.leasts.now c.loop-rank.most c.loop-rank.again c.ordered-ordered.ensures.reached c.requires.known inv.remains.ahead inv.cut_off (omega (arith, c.next-rank.ensures.value)) le).1 w.if-leasts-rank.false in
          record {
            remains = subst (λ l. goes l c.if-leasts-rank.most c.if-leasts-rank.again c.if-leasts-rank.still) (sym w.left-is)
                (subst (λ o. goes c.loop-rank.left o c.if-leasts-rank.again c.if-leasts-rank.still) (sym w.most-is)
                (subst (λ n. goes c.loop-rank.left c.loop-rank.most n c.if-leasts-rank.still) (sym w.again-is)
                (subst (λ n. goes c.loop-rank.left c.loop-rank.most c.loop-rank.again n) (sym w.still-is)
                (remains_absent s.ordered s.next s.heights s.stacks k c.loop-rank.left c.loop-rank.most c.loop-rank.again c.loop-rank.still inv.remains (sound.once k) le free))));
            cut_off = subst (IsCutOff s.ordered s.stacks (k + 1)) (sym w.left-is) (cut_off_absent s.ordered s.stacks k c.loop-rank.left inv.cut_off);
          }
    ]

pub bounds-leasts-rank : goal.bounds-leasts-rank
bounds-leasts-rank c = omega (arith, c.ordered-ordered.ensures.value, reached_ordered c.args.position.now.place c.ordered-ordered.ensures.reached)
