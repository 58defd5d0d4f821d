use Rattle.std.proofs.Common.{◌++◌, [], ◌∷◌, List, ℕ, subst}
use Rattle.crp_checker.specs.Files.{ShowEach}
use Rattle.crp_callers.proofs.SmallFiles.{two_begin, show_two}
use Rattle.crp_callers.proofs.verdicts.two_are_shown.Goals as goal

pub returns : goal.returns
returns c = λ first second verdicts f s shows.
    let same = c.one_cut.ensures (first ++ second) shows.0 (first ∷ second ∷ []) shows.1 (two_begin first second f s) in
    show_two first second verdicts (subst (λ (texts : List (List ℕ)). ShowEach texts verdicts) same shows.2)
