use Rattle.std.proofs.Common.{◌≡◌, ◌∙◌, ℕ, ◌<◌, ◌+◌, ◌-◌, ◌≤◌, ◌++◌, List, length, take, drop, sym, ap, ap₂, arith, rules, length-drop, subst, take-append-drop}
use Rattle.std.proofs.lemmas.List.{drop-take, drop-drop, take_rest, take-take}
use Rattle.std.proofs.lemmas.Result.{err_from_is_err_and}
use Rattle.std.specs.Io.KnownBytes.{Appends}
use Rattle.std.proofs.KnownBytes.{Appends-kept, Appends-trans}
use Rattle.crp_plan.proofs.Interruptions.{transfers_on}
use Rattle.crp_plan.proofs.transfer.write_all.Goals as goal

-- a front, and the front of what follows it
take-add : (m n : ℕ) (xs : List ℕ) → take m xs ++ take n (drop m xs) ≡ take (m + n) xs
take-add m n xs =
    let small : m ≤ m + n = omega arith in
    ap₂ (λ a b. a ++ b) (sym (take-take m (m + n) xs small)) (sym (drop-take m n xs)) ∙ take-append-drop m (take (m + n) xs)

pub loop-rest-preserved : goal.loop-rest-preserved
loop-rest-preserved g c =
    let inv = c.loop-rest.invariant in
    let done = inv.0.0 in
    let n = c.in_ok-n.n in
    let step = c.in_ok-n.ensures in
    let rest = c.loop-rest.rest.now in
    let text = c.args.text.now in
    let taken : take done text ++ take n rest ≡ take (done + n) text = ap (λ r. take done text ++ take n r) inv.0.1 ∙ take-add done n text in
    let left : take (length rest - n) (drop n rest) ≡ drop (done + n) text = take_rest rest n ∙ ap (drop n) inv.0.1 ∙ drop-drop n done text in (
      (done + n, left, subst (Appends _ _) taken (Appends-trans _ _ _ _ _ inv.0.2 step.ok)),
      transfers_on inv.1 step.done,
    )

pub returns-in_err-n-clause-part : goal.returns-in_err-n-clause-part
returns-in_err-n-clause-part g c =
    let p = err_from_is_err_and c.from_residual.result c.from_residual.ensures.1 in
    let inv = c.loop-rest.invariant in
    let done = inv.0.0 in
    let more : 0 < length c.loop-rest.rest.now = search rules in
    rw (p.1) (done, omega (arith, more, ap length inv.0.1, length-drop done c.args.text.now), Appends-kept _ _ _ _ inv.0.2 c.in_err-n.ensures.err)
