use Rattle.std.proofs.Common.{◌≡◌, ◌∷◌, [], ◌++◌, ◌+◌, ◌<◌, suc, List, ℕ, length, take, get_or, ap, ◌∙◌, sym, subst, arith, append_assoc}
use Rattle.std.proofs.Math.Seq.{take-suc}
use Rattle.crp_cert.specs.declared.open_head.HeadFed.TheVariants.{Whole, Faulty}
use Rattle.crp_cert.specs.HeadsFed.{HasFed}
use Rattle.crp_cert.proofs.open_head.OpenHead.read.Goals as goal

-- one byte more behind the first i
one_more : (before bytes : List ℕ) (i : ℕ) → i < length bytes → (before ++ take i bytes) ++ get_or bytes i 0 ∷ [] ≡ before ++ take (i + 1) bytes
one_more before bytes i lt =
    let next : suc i ≡ i + 1 = omega arith in
    append_assoc before (take i bytes) (get_or bytes i 0 ∷ []) ∙ ap (λ l. before ++ l) (sym (take-suc bytes i 0 lt) ∙ ap (λ n. take n bytes) next)

pub returns-in-Whole-clause-fed : goal.returns-in-Whole-clause-fed
returns-in-Whole-clause-fed c before at =
    let i = c.loop-i.i in
    let bytes : List ℕ = c.args.bytes.now in
    subst (λ l. HasFed l (Whole c.in-Whole.head)) (one_more before bytes i c.loop-i-test.true)
    (subst (HasFed ((before ++ take i bytes) ++ get_or bytes i 0 ∷ [])) c.in-Whole.is (c.in_ok-next.ensures.fed (before ++ take i bytes) (c.loop-i.invariant before at)))

pub returns-in-Faulty-clause-fed : goal.returns-in-Faulty-clause-fed
returns-in-Faulty-clause-fed c before at =
    let i = c.loop-i.i in
    let bytes : List ℕ = c.args.bytes.now in
    subst (λ l. HasFed l (Faulty c.in-Faulty.bay c.in-Faulty.fault)) (one_more before bytes i c.loop-i-test.true)
    (subst (HasFed ((before ++ take i bytes) ++ get_or bytes i 0 ∷ [])) c.in-Faulty.is (c.in_ok-next.ensures.fed (before ++ take i bytes) (c.loop-i.invariant before at)))
