use Rattle.std.proofs.Common.{◌≡◌, ◌-◌, ◌++◌, ◌+◌, ◌∷◌, [], List, ℕ, get_or, length, take, drop, refl, sym, ap, ◌∙◌, subst, arith, append_assoc, length-drop}
use Rattle.std.proofs.lemmas.List.{take_rest}
use Rattle.std.proofs.Math.Seq.{take-add}
use Rattle.crp_checker.specs.Files.{IsEnded}
use Rattle.crp_checker.specs.Watches.{IsUnended}
use Rattle.crp_checker.proofs.AtLines.{one_more}
use Rattle.crp_checker.proofs.watch.cut.Goals as goal

pub returns-in_default-clause-ended : goal.returns-in_default-clause-ended
returns-in_default-clause-ended c text un =
    let bytes : List ℕ = c.args.bytes.now in
    let i = c.loop-taken.taken in
    let came : List ℕ = text ++ take i bytes in
    subst IsEnded (one_more text came (came ++ get_or bytes i 0 ∷ []) bytes i 0 c.loop-taken-test.true refl refl) (c.in_default.ensures.ended came (c.loop-taken.invariant.on text un))

pub loop-taken-preserved : goal.loop-taken-preserved
loop-taken-preserved c =
    let bytes : List ℕ = c.args.bytes.now in
    let i = c.loop-taken.taken in
    let n = c.passed_over-taken.result in
    let rest : take (length bytes - (i + 1)) (drop (i + 1) bytes) ≡ drop (i + 1) bytes = take_rest bytes (i + 1) in
    record {
      within = let le = c.passed_over-taken.ensures.within in let lt = c.loop-taken-test.true in omega (arith, ap length rest, length-drop (i + 1) bytes);
      on = λ text un.
          let came : List ℕ = text ++ take i bytes in
          let line : List ℕ = came ++ get_or bytes i 0 ∷ [] in
          let one = one_more text came line bytes i 0 c.loop-taken-test.true refl refl in
          subst (λ l. IsUnended l c.in-Some.next)
          (ap (λ l. l ++ take n (take (length bytes - (i + 1)) (drop (i + 1) bytes))) one ∙ append_assoc text (take (i + 1) bytes) (take n (take (length bytes - (i + 1)) (drop (i + 1) bytes)))
          ∙ ap (λ l. text ++ (take (i + 1) bytes ++ take n l)) rest ∙ ap (λ l. text ++ l) (sym (take-add (i + 1) n bytes)))
          (c.passed_over-taken.ensures.on line (c.in-Some.ensures.on came (c.loop-taken.invariant.on text un)));
    }
