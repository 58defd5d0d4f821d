use Rattle.std.proofs.Common.{List, ℕ, ◌++◌, take, drop, sym, ap, ◌∙◌, append_assoc}
use Rattle.std.proofs.lemmas.List.{take_rest, take-append-drop}
use Rattle.crp_checker.proofs.file.check_file.Goals as goal

pub loop-rest-preserved : goal.loop-rest-preserved
loop-rest-preserved c =
    let kept = c.loop-rest.invariant in
    let came = kept.0 in
    let rest : List ℕ = c.loop-rest.rest.now in
    let n = c.in-Ok.taken in (
      came ++ take n rest,
      kept.1 ∙ ap (λ l. came ++ l) (sym (take-append-drop n rest)) ∙ sym (append_assoc came (take n rest) (drop n rest)) ∙ ap (λ l. (came ++ take n rest) ++ l) (sym (take_rest rest n)),
      c.in-Ok.ensures.on came kept.2,
    )
