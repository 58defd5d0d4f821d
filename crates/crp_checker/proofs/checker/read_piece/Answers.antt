use Rattle.std.proofs.Common.{◌≡◌, List, [], ℕ, refl, ◌++◌, length, take, drop, sym, ap, ◌∙◌, subst, append_assoc}
use Rattle.std.specs.Option.{option_copied}
use Rattle.std.proofs.lemmas.Bool.{eqb-true}
use Rattle.std.proofs.lemmas.List.{append-nil, take_rest, take-append-drop}
use Rattle.crp_checker.specs.Stages.{HasCome}
use Rattle.crp_checker.proofs.FileFed.{no_elements}
use Rattle.crp_checker.proofs.checker.read_piece.Goals as goal

pub loop-rest-init : goal.loop-rest-init
loop-rest-init c = ([], refl, λ before at. subst (λ l. HasCome (option_copied c.args.wanted) l c.args.stage) (sym (append-nil before)) at)

pub loop-rest-preserved : goal.loop-rest-preserved
loop-rest-preserved c =
    let kept = c.loop-rest.invariant in
    let came = kept.0 in
    let rest : List ℕ = c.loop-rest.rest.now in
    let n = c.in_ok-next.taken in (
      came ++ take n rest,
      kept.1 ∙ ap (λ l. came ++ l) (sym (take-append-drop n rest)) ∙ sym (append_assoc came (take n rest) (drop n rest)) ∙ ap (λ l. (came ++ take n rest) ++ l) (sym (take_rest rest n)),
      λ before at. subst (λ l. HasCome (option_copied c.args.wanted) l c.in_ok-next.next) (append_assoc before came (take n rest)) (c.in_ok-next.ensures.come (before ++ came) (kept.2 before at)),
    )

pub returns : goal.returns
returns c before at =
    let kept = c.loop-rest.invariant in
    let none = no_elements c.loop-rest.rest.now (eqb-true (length c.loop-rest.rest.now) 0 (sym c.is_empty.ensures ∙ c.loop-rest-test.false)) in
    let all : kept.0 ≡ c.args.piece.now = sym (kept.1 ∙ ap (λ l. kept.0 ++ l) none ∙ append-nil kept.0) in
    subst (λ l. HasCome (option_copied c.args.wanted) (before ++ l) c.loop-rest.stage) all (kept.2 before at)
