use Rattle.std.proofs.Common.{◌++◌, ◌∙◌, ap, sym}
use Rattle.crp_callers.specs.SmallBay.{small_head}
use Rattle.crp_callers.proofs.SmallBays.{small_head_is, small_head_text}
use Rattle.crp_callers.proofs.certificates.head_of_lines.Goals as goal

pub returns : goal.returns
returns c = λ head rest more is e. c.one_head.ensures head small_head rest more is small_head_is (sym e ∙ ap (λ text. text ++ more) (sym small_head_text))
