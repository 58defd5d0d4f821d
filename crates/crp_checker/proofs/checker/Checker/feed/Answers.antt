use Rattle.std.proofs.Common.{◌++◌, sym, ◌∙◌, subst}
use Rattle.crp_checker.specs.Stages.{HasCome}
use Rattle.crp_checker.specs.Fed.{HasComeIf}
use Rattle.crp_checker.proofs.checker.Checker.feed.Goals as goal

pub returns-clause-read : goal.returns-clause-read
returns-clause-read c wanted bytes read =
    let same = c.as_ref.ensures.value ∙ read.0 in
    let was = subst (HasComeIf wanted bytes) (sym c.replace.ensures.value ∙ c.in-Some.is) read.1 in (
      read.0,
      subst (λ w. HasCome w (bytes ++ c.args.piece.now) c.in_ok-stage.stage) same (c.in_ok-stage.ensures bytes (subst (λ w. HasCome w bytes c.in-Some.stage) (sym same) was)),
    )
