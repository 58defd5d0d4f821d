use Rattle.std.proofs.Common.{refl}
use Rattle.crp_callers.specs.SmallAnswers.{small_answered}
use Rattle.crp_callers.proofs.run_texts.first_lines_of_small_bay.Goals as goal

pub returns : goal.returns
returns c = λ chosen other one again text also x y first second lines more.
    c.first_lines_are_one.ensures.answers chosen other (small_answered one) (small_answered again) text also x y first second refl lines more
