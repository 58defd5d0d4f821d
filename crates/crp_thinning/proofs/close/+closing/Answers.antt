use Rattle.std.proofs.Common.{rules, ◌≡◌, ℕ, ◌+◌, ◌-◌, ◌≤◌, List, [], ◌∷◌, ◌++◌, length, take, drop, get_or, codes, refl, sym, ap, ◌∙◌, subst, arith, append-nil, Contains}
use Rattle.std.specs.List.{between}
use Rattle.std.proofs.lemmas.List.{take_more, take_all}
use Rattle.std.proofs.lemmas.Slice.{between_to_end}
use Rattle.std.proofs.lemmas.Result.{err_from_is_err_and}
use Rattle.crp_plan.specs.Bay.{Position}
use Rattle.crp_bay.specs.Back.{PlaceAndTrail}
use Rattle.crp_thinned.specs.Thinned.{good_rows, free_row, child_at, child_without}
use Rattle.crp_thinning.specs.Symbols.{Closes}
use Rattle.crp_thinning.specs.EachRow.{AreGood, CloseEach}
use Rattle.crp_thinning.proofs.Claimed.{granted_more, granted_first, one_granted, claimed_after, claimed_first}
use Rattle.crp_thinning.proofs.Closing.{each_more, each_append, rows_in_parts, good_all, good_first, good_between, branch_closes, free_closes, back_again, grown_on}
use Rattle.crp_thinning.proofs.close.+closing.Goals as goal

pub close_free-returns-clause-closed : goal.close_free-returns-clause-closed
close_free-returns-clause-closed g t c =
    let s : Position = c.args.place.now.place in
    let K = c.in_ok-more.ensures.closed in
    let at_child : Closes (child_at s (free_row s)) (c.args.need - 1) K.0 =
    subst (λ row. Closes (child_at s row) (c.args.need - 1) K.0) c.requires.row
    (subst (λ n. Closes (child_at s c.args.row) n K.0) c.saturating_sub.ensures (subst (λ (v : PlaceAndTrail). Closes v.place c.saturating_sub.result K.0) c.put.ensures.value K.1)) in
    (codes "F" ++ K.0, free_closes s c.args.need K.0 (subst (λ row. 1 ≤ row) c.requires.row c.requires.counts) at_child, grown_on c.args.symbols.now.items c.push.new.self.items c.close-below.new.symbols.items (codes "F") K.0 c.in_ok-push.ensures.items K.2)

pub close_free-returns-clause-granted : goal.close_free-returns-clause-granted
close_free-returns-clause-granted g t c =
    let some = c.requires.some in
    let granted = c.in_ok-more.ensures.granted in let few = granted.0 in
    (omega arith, granted_first g.C.Claims.claims c.in_ok-more.more c.args.claims.now c.claim.new.self c.close-below.new.claims c.if-not-claim.ensures granted.1)

pub close_free-returns-in_err-more-clause-claimed : goal.close_free-returns-in_err-more-clause-claimed
close_free-returns-in_err-more-clause-claimed g t c =
    let e = err_from_is_err_and c.from_residual-in_err-more.result c.from_residual-in_err-more.ensures.1 in
    rw (e.1, e.2) (claimed_first g.C.Claims.claims c.args.most _ c.args.claims.now c.claim.new.self c.close-below.new.claims c.requires.some c.if-not-claim.ensures c.in_err-more.ensures.claimed)

pub close_free-returns-in_err-push-clause-claimed : goal.close_free-returns-in_err-push-clause-claimed
close_free-returns-in_err-push-clause-claimed g t c =
    let e = err_from_is_err_and c.from_residual.result c.from_residual.ensures.1 in
    rw (e.1, e.2) (one_granted g.C.Claims.claims c.args.most c.args.claims.now c.claim.new.self c.requires.some c.if-not-claim.ensures)

pub close_each-loop-i-init : goal.close_each-loop-i-init
close_each-loop-i-init g t c = record { same = refl; most = omega arith; granted = refl; text = ([], refl, sym (append-nil c.args.symbols.now.items)) }

pub close_each-put-requires : goal.close_each-put-requires
close_each-put-requires g t c =
    let row : ℕ = get_or c.args.good.now c.loop-i.i 0 in
    subst (λ (v : PlaceAndTrail). Contains (good_rows v.place) row) (sym c.loop-i.invariant.same) (c.requires.good c.loop-i.i c.loop-i-test.true)

pub close_each-returns-in_err-more-clause-grown : goal.close_each-returns-in_err-more-clause-grown
close_each-returns-in_err-more-clause-grown g t c =
    let T = c.loop-i.invariant.text in let G = c.close-below.ensures.grown in
    (T.0 ++ G.0, grown_on c.args.symbols.now.items c.loop-i.symbols.items c.close-below.new.symbols.items T.0 G.0 T.2 G.1)

pub close_each-returns-in_err-more-clause-claimed : goal.close_each-returns-in_err-more-clause-claimed
close_each-returns-in_err-more-clause-claimed g t c =
    let inv = c.loop-i.invariant in
    let e = err_from_is_err_and c.from_residual.result c.from_residual.ensures.1 in
    rw (e.1, e.2) (claimed_after g.C.Claims.claims c.loop-i.spent c.args.most _ c.args.claims.now c.loop-i.claims c.close-below.new.claims inv.most inv.granted c.in_err-more.ensures.claimed)

pub close_each-loop-i-preserved : goal.close_each-loop-i-preserved
close_each-loop-i-preserved g t c =
    let s : Position = c.args.place.now.place in
    let inv = c.loop-i.invariant in let most = inv.most in
    let row : ℕ = get_or c.args.good.now c.loop-i.i 0 in
    let T = inv.text in
    let K = c.in_ok-more.ensures.closed in
    let granted = c.in_ok-more.ensures.granted in let few = granted.0 in
    let at_child : Closes (child_at s row) (c.args.need - 1) K.0 =
    subst (λ n. Closes (child_at s row) n K.0) c.saturating_sub.ensures
    (subst (λ (v : PlaceAndTrail). Closes v.place c.saturating_sub.result K.0) (c.put.ensures.value ∙ ap (λ (v : PlaceAndTrail). record { place = child_at v.place row; trail = v.place ∷ v.trail }) inv.same) K.1) in
    let rows : take c.loop-i.i c.args.good.now ++ row ∷ [] ≡ take (c.loop-i.i + 1) c.args.good.now = sym (take_more c.args.good.now c.loop-i.i 0 c.loop-i-test.true) in
    record {
      same = back_again c.undo-undone.result c.loop-i.place c.put.new.self c.close-below.new.place c.undo-undone.new.self (child_at c.loop-i.place.place row) c.put.ensures.value c.close-below.ensures.same c.undo-undone.ensures.undone c.undo-undone.ensures.none ∙ inv.same;
      most = omega arith;
      granted = granted_more g.C.Claims.claims c.loop-i.spent c.in_ok-more.more c.args.claims.now c.loop-i.claims c.close-below.new.claims inv.granted granted.1;
      text = (
        T.0 ++ K.0,
        subst (λ l. CloseEach s c.args.need l (T.0 ++ K.0)) rows (each_more s c.args.need (take c.loop-i.i c.args.good.now) T.0 row K.0 T.1 at_child),
        grown_on c.args.symbols.now.items c.loop-i.symbols.items c.close-below.new.symbols.items T.0 K.0 T.2 K.2,
      );
    }

pub close_each-returns-clause-closed : goal.close_each-returns-clause-closed
close_each-returns-clause-closed g t c =
    let T = c.loop-i.invariant.text in
    (T.0, subst (λ l. CloseEach c.args.place.now.place c.args.need l T.0) (take_all c.loop-i.i c.args.good.now (omega arith)) T.1, T.2)

pub close_rows-best_fit-best-requires : goal.close_rows-best_fit-best-requires
close_rows-best_fit-best-requires g t c = good_all c.args.place.now.place c.as_slice-good.result.now (c.as_slice-good.ensures.value ∙ c.good_rows-all.ensures)

pub close_rows-close_each-requires : goal.close_rows-close_each-requires
close_rows-close_each-requires g t c =
    let s : Position = c.args.place.now.place in let rows : List ℕ = c.as_slice-good.result.now in
    let good : AreGood s rows = good_all s rows (c.as_slice-good.ensures.value ∙ c.good_rows-all.ensures) in
    let h : AreGood s (between c.best_fit-best.result c.min-next.result rows) = good_between s rows c.best_fit-best.result c.min-next.result good in
    search rules

pub close_rows-close_each-requires-2 : goal.close_rows-close_each-requires-2
close_rows-close_each-requires-2 g t c =
    let s : Position = c.args.place.now.place in let rows : List ℕ = c.as_slice-good.result.now in
    let good : AreGood s rows = good_all s rows (c.as_slice-good.ensures.value ∙ c.good_rows-all.ensures) in
    let h : AreGood c.close_each.new.place.place (take c.best_fit-best.result rows) =
    subst (λ (v : PlaceAndTrail). AreGood v.place (take c.best_fit-best.result rows)) (sym c.in_ok-first.ensures.same) (good_first s rows c.best_fit-best.result good) in
    search rules

pub close_rows-close_each-requires-3 : goal.close_rows-close_each-requires-3
close_rows-close_each-requires-3 g t c =
    let s : Position = c.args.place.now.place in let rows : List ℕ = c.as_slice-good.result.now in
    let good : AreGood s rows = good_all s rows (c.as_slice-good.ensures.value ∙ c.good_rows-all.ensures) in
    let h : AreGood c.close_each-2.new.place.place (between c.min-next.result (length rows) rows) =
    subst (λ (v : PlaceAndTrail). AreGood v.place (between c.min-next.result (length rows) rows)) (sym (c.in_ok-below.ensures.same ∙ c.in_ok-first.ensures.same)) (good_between s rows c.min-next.result (length rows) good) in
    search rules

pub close_rows-returns-in_err-below-clause-claimed : goal.close_rows-returns-in_err-below-clause-claimed
close_rows-returns-in_err-below-clause-claimed g t c =
    let granted = c.in_ok-first.ensures.granted in
    let e = err_from_is_err_and c.from_residual-in_err-below.result c.from_residual-in_err-below.ensures.1 in
    rw (e.1, e.2) (claimed_after g.C.Claims.claims c.in_ok-first.first c.args.most _ c.args.claims.now c.close_each.new.claims c.close_each-2.new.claims granted.0 granted.1 c.in_err-below.ensures.claimed)

pub close_rows-returns-in_err-above-clause-claimed : goal.close_rows-returns-in_err-above-clause-claimed
close_rows-returns-in_err-above-clause-claimed g t c =
    let granted = c.in_ok-first.ensures.granted in let few = granted.0 in
    let more = c.in_ok-below.ensures.granted in let fewer = more.0 in
    let e = err_from_is_err_and c.from_residual-in_err-above.result c.from_residual-in_err-above.ensures.1 in
    rw (e.1, e.2) (claimed_after g.C.Claims.claims c.in_ok-first.first c.args.most _ c.args.claims.now c.close_each.new.claims c.close_each-3.new.claims few granted.1
    (claimed_after g.C.Claims.claims c.in_ok-below.below (c.args.most - c.in_ok-first.first) _ c.close_each.new.claims c.close_each-2.new.claims c.close_each-3.new.claims fewer more.1 c.in_err-above.ensures.claimed))

pub close_rows-returns-in_err-above-clause-grown : goal.close_rows-returns-in_err-above-clause-grown
close_rows-returns-in_err-above-clause-grown g t c =
    let one = c.in_ok-first.ensures.closed in let other = c.in_ok-below.ensures.closed in let G = c.close_each-3.ensures.grown in
    let old : List ℕ = c.args.symbols.now.items in (
      (other.0 ++ one.0) ++ G.0,
      grown_on old c.swap_parts.new.symbols.items c.close_each-3.new.symbols.items (other.0 ++ one.0) G.0
          (c.swap_parts.ensures.swapped old one.0 other.0 (grown_on old c.close_each.new.symbols.items c.close_each-2.new.symbols.items one.0 other.0 one.2 other.2) (sym (c.len-start.ensures ∙ c.args.symbols.now.ok.0)) (sym (c.len-middle.ensures ∙ c.close_each.new.symbols.ok.0 ∙ ap length one.2)))
          G.1,
    )

pub close_rows-returns-clause-closed : goal.close_rows-returns-clause-closed
close_rows-returns-clause-closed g t c =
    let s : Position = c.args.place.now.place in let rows : List ℕ = c.as_slice-good.result.now in
    let one = c.in_ok-first.ensures.closed in let other = c.in_ok-below.ensures.closed in let last = c.in_ok-above.ensures.closed in
    let old : List ℕ = c.args.symbols.now.items in
    let best : ℕ = c.best_fit-best.result in let next : ℕ = c.min-next.result in
    let le : best ≤ next = omega (arith, c.best_fit-best.ensures, c.min-next.ensures) in
    let below : CloseEach s c.args.need (take best rows) other.0 = subst (λ (v : PlaceAndTrail). CloseEach v.place c.args.need (take best rows) other.0) c.in_ok-first.ensures.same other.1 in
    let above : CloseEach s c.args.need (drop next rows) last.0 =
    subst (λ l. CloseEach s c.args.need l last.0) (between_to_end rows next (length rows) (omega arith))
    (subst (λ (v : PlaceAndTrail). CloseEach v.place c.args.need (between next (length rows) rows) last.0) (c.in_ok-below.ensures.same ∙ c.in_ok-first.ensures.same) last.1) in (
      (other.0 ++ one.0) ++ last.0,
      subst (λ l. CloseEach s c.args.need l ((other.0 ++ one.0) ++ last.0)) (rows_in_parts rows best next le ∙ c.as_slice-good.ensures.value ∙ c.good_rows-all.ensures)
          (each_append s c.args.need (take best rows ++ between best next rows) (drop next rows) (other.0 ++ one.0) last.0 (each_append s c.args.need (take best rows) (between best next rows) other.0 one.0 below one.1) above),
      grown_on old c.swap_parts.new.symbols.items c.close_each-3.new.symbols.items (other.0 ++ one.0) last.0
          (c.swap_parts.ensures.swapped old one.0 other.0 (grown_on old c.close_each.new.symbols.items c.close_each-2.new.symbols.items one.0 other.0 one.2 other.2) (sym (c.len-start.ensures ∙ c.args.symbols.now.ok.0)) (sym (c.len-middle.ensures ∙ c.close_each.new.symbols.ok.0 ∙ ap length one.2)))
          last.2,
    )

pub close_rows-returns-clause-granted : goal.close_rows-returns-clause-granted
close_rows-returns-clause-granted g t c =
    let one = c.in_ok-first.ensures.granted in let few = one.0 in
    let other = c.in_ok-below.ensures.granted in let fewer = other.0 in
    let last = c.in_ok-above.ensures.granted in let fewest = last.0 in (
      omega arith,
      granted_more g.C.Claims.claims (c.in_ok-first.first + c.in_ok-below.below) c.in_ok-above.above c.args.claims.now c.close_each-2.new.claims c.close_each-3.new.claims
          (granted_more g.C.Claims.claims c.in_ok-first.first c.in_ok-below.below c.args.claims.now c.close_each.new.claims c.close_each-2.new.claims one.1 other.1) last.1,
    )

pub close_rows-returns-clause-grown : goal.close_rows-returns-clause-grown
close_rows-returns-clause-grown g t c =
    let one = c.in_ok-first.ensures.closed in let other = c.in_ok-below.ensures.closed in let G = c.close_each-3.ensures.grown in
    let old : List ℕ = c.args.symbols.now.items in (
      (other.0 ++ one.0) ++ G.0,
      grown_on old c.swap_parts.new.symbols.items c.close_each-3.new.symbols.items (other.0 ++ one.0) G.0
          (c.swap_parts.ensures.swapped old one.0 other.0 (grown_on old c.close_each.new.symbols.items c.close_each-2.new.symbols.items one.0 other.0 one.2 other.2) (sym (c.len-start.ensures ∙ c.args.symbols.now.ok.0)) (sym (c.len-middle.ensures ∙ c.close_each.new.symbols.ok.0 ∙ ap length one.2)))
          G.1,
    )

pub close_thin-returns-in_err-spent-clause-claimed : goal.close_thin-returns-in_err-spent-clause-claimed
close_thin-returns-in_err-spent-clause-claimed g t c =
    let e = err_from_is_err_and c.from_residual-in_err-spent.result c.from_residual-in_err-spent.ensures.1 in
    rw (e.1, e.2) (claimed_first g.C.Claims.claims c.args.most _ c.args.claims.now c.claim.new.self c.close_rows.new.claims c.requires.some c.if-not-claim.ensures c.in_err-spent.ensures.claimed)

pub close_thin-returns-in_err-more-clause-claimed : goal.close_thin-returns-in_err-more-clause-claimed
close_thin-returns-in_err-more-clause-claimed g t c =
    let granted = c.in_ok-spent.ensures.granted in
    let e = err_from_is_err_and c.from_residual-in_err-more.result c.from_residual-in_err-more.ensures.1 in
    rw (e.1, e.2) (claimed_first g.C.Claims.claims c.args.most _ c.args.claims.now c.claim.new.self c.close-below.new.claims c.requires.some c.if-not-claim.ensures
    (claimed_after g.C.Claims.claims c.in_ok-spent.spent (c.args.most - 1) _ c.claim.new.self c.close_rows.new.claims c.close-below.new.claims granted.0 granted.1 c.in_err-more.ensures.claimed))

pub close_thin-returns-clause-closed : goal.close_thin-returns-clause-closed
close_thin-returns-clause-closed g t c =
    let s : Position = c.args.place.now.place in let old : List ℕ = c.args.symbols.now.items in
    let T = c.in_ok-spent.ensures.closed in
    let K = c.in_ok-more.ensures.closed in
    let last : Closes (child_without s) (c.args.need - 2) K.0 =
    subst (λ n. Closes (child_without s) n K.0) c.saturating_sub.ensures
    (subst (λ (v : PlaceAndTrail). Closes v.place c.saturating_sub.result K.0) (c.lift.ensures.value ∙ ap (λ (v : PlaceAndTrail). record { place = child_without v.place; trail = v.place ∷ v.trail }) c.in_ok-spent.ensures.same) K.1) in (
      codes "R" ++ (T.0 ++ K.0),
      branch_closes s c.args.need T.0 K.0 c.requires.left T.1 last,
      grown_on old c.close_rows.new.symbols.items c.close-below.new.symbols.items (codes "R" ++ T.0) K.0 (grown_on old c.push.new.self.items c.close_rows.new.symbols.items (codes "R") T.0 c.in_ok-push.ensures.items T.2) K.2,
    )

pub close_thin-returns-clause-granted : goal.close_thin-returns-clause-granted
close_thin-returns-clause-granted g t c =
    let some = c.requires.some in
    let one = c.in_ok-spent.ensures.granted in let few = one.0 in
    let other = c.in_ok-more.ensures.granted in let fewer = other.0 in (
      omega arith,
      granted_more g.C.Claims.claims (1 + c.in_ok-spent.spent) c.in_ok-more.more c.args.claims.now c.close_rows.new.claims c.close-below.new.claims
          (granted_more g.C.Claims.claims 1 c.in_ok-spent.spent c.args.claims.now c.claim.new.self c.close_rows.new.claims (c.claim.new.self, c.if-not-claim.ensures, refl) one.1) other.1,
    )
