use Rattle.std.proofs.Common.{◌≡◌, ◌≤◌, ◌<◌, ◌+◌, ◌-◌, ◌*◌, ◌^◌, ℕ, true, false, ◌∷◌, length, filter, refl, sym, ap, ◌∙◌, subst, ⊎_elim, arith}
use Rattle.std.proofs.lemmas.Bool.{both_ways, cases_lt}
use Rattle.crp_bay.specs.Positions.{can_shift, counted}
use Rattle.crp_bay.proofs.Reaching.{reached_next, no_targets}
use Rattle.crp_search.specs.Frames.{digits}
use Rattle.crp_search.proofs.Digits.{digits_push, digits_grow, filter_down}
use Rattle.crp_search.proofs.frames.legal_rows.Goals as goal
use Rattle.crp_search.proofs.frames.legal_rows.Goals.{then-takes_from, else-takes_from}

pub loop-row-preserved : goal.loop-row-preserved
loop-row-preserved c =
    let s = c.args.position.now.place in
    let inv = c.loop-row.invariant in
    let row : ℕ = c.loop-row.row in
    let n : ℕ = length s.heights in
    let few = inv.few in
    let most : n ≤ 12 = omega (arith, c.rows-row.ensures.value, c.rows-row.ensures.few) in
    let some : 1 ≤ row = omega (arith, c.loop-row-test.true) in
    let step = filter_down (can_shift s) row n some inv.within in
    elim c.if-takes_from.branch [
      | then-takes_from w ↦
          let yes : can_shift s row ≡ true = sym c.takes_from.ensures ∙ w.if-takes_from.true in
          let more : filter (can_shift s) (counted (row - 1 + 1) (n - (row - 1))) ≡ row ∷ filter (can_shift s) (counted (row + 1) (n - row)) = step ∙ (rw yes refl) in
          record {
            within = omega (arith, inv.within);
            rows = ap (digits 16) w.rows-is ∙ digits_push c.loop-row.count c.loop-row.rows row (omega arith) inv.low some (omega arith) ∙ ap (λ l. row ∷ l) inv.rows ∙ sym more;
            count = omega (arith, w.count-is, inv.count, ap length more);
            few = omega (arith, w.count-is);
            low = subst (λ m. m < 16 ^ c.if-takes_from.count) (sym w.rows-is) (subst (λ k. c.loop-row.rows * 16 + row < 16 ^ k) (sym w.count-is) (digits_grow c.loop-row.count c.loop-row.rows row inv.low (omega arith)));
          }
      | else-takes_from w ↦
          let no : can_shift s row ≡ false = sym c.takes_from.ensures ∙ w.if-takes_from.false in
          let same : filter (can_shift s) (counted (row - 1 + 1) (n - (row - 1))) ≡ filter (can_shift s) (counted (row + 1) (n - row)) = step ∙ (rw no refl) in
          record {
            within = omega (arith, inv.within);
            rows = ap (digits 16) w.rows-is ∙ inv.rows ∙ sym same;
            count = w.count-is ∙ inv.count ∙ sym (ap length same);
            few = omega (arith, w.count-is);
            low = subst (λ m. m < 16 ^ c.if-takes_from.count) (sym w.rows-is) (subst (λ k. c.loop-row.rows < 16 ^ k) (sym w.count-is) inv.low);
          }
    ]

pub returns-then-is_done-clause-rows : goal.returns-then-is_done-clause-rows
returns-then-is_done-clause-rows c = sym (no_targets c.args.position.now.place (c.is_done.ensures.done.0 c.if-is_done.true))

pub returns-then-is_done-clause-count : goal.returns-then-is_done-clause-count
returns-then-is_done-clause-count c = sym (ap length (no_targets c.args.position.now.place (c.is_done.ensures.done.0 c.if-is_done.true)))

pub takes_from-requires-clause-leaves : goal.takes_from-requires-clause-leaves
takes_from-requires-clause-leaves c =
    let s = c.args.position.now.place in
    let next = (reached_next s c.rows-row.ensures.reached).1 in
    ⊎_elim (λ lt. absurd (both_ways c.is_done.result c.if-is_done.false (c.is_done.ensures.done.1 (omega arith)))) (λ le. le) (cases_lt s.ordered s.next)

pub takes_from-requires-clause-from : goal.takes_from-requires-clause-from
takes_from-requires-clause-from c = c.requires.from (takes_from-requires-clause-leaves c)
