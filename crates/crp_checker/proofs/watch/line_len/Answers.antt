use Rattle.std.proofs.Common.{◌≡◌, ◌≢◌, ◌<◌, ◌+◌, ◌-◌, ◌++◌, ◌∷◌, [], ℕ, List, length, take, drop, sym, ap, ◌∙◌, subst, arith, append_assoc, length-drop}
use Rattle.std.specs.List.{AllByRecursion}
use Rattle.std.proofs.Math.Seq.{take-add}
use Rattle.crp_cert.proofs.Joined.{all_both}
use Rattle.crp_checker.proofs.OnWalks.{rest_is}
use Rattle.crp_checker.proofs.watch.line_len.Goals as goal

-- the front of a list, and that of what is left
fronts : (n m : ℕ) (bytes : List ℕ) → take (n + m) bytes ≡ take n bytes ++ take m (take (length bytes - n) (drop n bytes))
fronts n m bytes = take-add n m bytes ∙ ap (λ l. take n bytes ++ take m l) (sym (rest_is n bytes))

pub returns-clause-line : goal.returns-clause-line
returns-clause-line c =
    let bytes = c.args.bytes.now in
    let clear = c.clear_len-clear.result in
    let n = c.end_of.result in
    subst (AllByRecursion (λ b. b ≢ 10)) (sym (fronts clear n bytes))
    (all_both (λ (b : ℕ). b ≢ 10) (take clear bytes) (take n (take (length bytes - clear) (drop clear bytes))) c.clear_len-clear.ensures.clear c.end_of.ensures.line)

pub returns-clause-stop : goal.returns-clause-stop
returns-clause-stop c lt =
    let bytes = c.args.bytes.now in
    let clear = c.clear_len-clear.result in
    let n = c.end_of.result in
    let rest = take (length bytes - clear) (drop clear bytes) in
    let more : n < length rest = omega (arith, lt, ap length (rest_is clear bytes), length-drop clear bytes) in
    let same : (clear + n) + 1 ≡ clear + (n + 1) = omega arith in
    ap (λ k. take k bytes) same ∙ fronts clear (n + 1) bytes ∙ ap (λ l. take clear bytes ++ l) (c.end_of.ensures.stop more)
    ∙ sym (append_assoc (take clear bytes) (take n rest) (10 ∷ [])) ∙ ap (λ l. l ++ 10 ∷ []) (sym (fronts clear n bytes))
