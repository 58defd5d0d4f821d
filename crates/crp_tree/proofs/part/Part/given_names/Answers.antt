use Rattle.std.proofs.Common.{AllPairs, sym, ap, ◌∙◌, subst}
use Rattle.crp_tree.specs.Names.{Precedes}
use Rattle.crp_tree.specs.Parts.{ProblemPart, given_of, IsPartGiving}
use Rattle.crp_tree.proofs.Kept.{names_rise}
use Rattle.crp_tree.proofs.part.Part.given_names.Goals as goal

pub returns-clause-names : goal.returns-clause-names
returns-clause-names c =
    let inside = c.self.invariant in
    c.as_slice.ensures.value ∙ inside.given_is ∙ ap given_of c.self.view_is

pub returns-clause-rising : goal.returns-clause-rising
returns-clause-rising c =
    let inside = c.self.invariant in
    subst (AllPairs Precedes) (sym (c.as_slice.ensures.value ∙ inside.given_is)) (names_rise _ inside.kept)
