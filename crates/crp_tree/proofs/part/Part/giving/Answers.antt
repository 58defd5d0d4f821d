use Rattle.std.proofs.Common.{sym, ap, ◌∙◌}
use Rattle.crp_tree.specs.Claims.{given_by}
use Rattle.crp_tree.proofs.Kept.{kept}
use Rattle.crp_tree.proofs.part.Part.giving.Goals as goal

pub invariant_of-result : goal.invariant_of-result
invariant_of-result c = record {
  kept = kept c.args.problem.now c.copy.result c.args.name c.args.tree c.args.floor c.copy.ensures.same c.copy.ensures.problem c.requires.part c.requires.floor;
  given_is = c.requires.given ∙ ap (λ p. given_by p (record { name = c.args.name; tree = c.args.tree })) (sym c.copy.ensures.same);
}

pub returns-clause-part : goal.returns-clause-part
returns-clause-part c = kept c.args.problem.now c.copy.result c.args.name c.args.tree c.args.floor c.copy.ensures.same c.copy.ensures.problem c.requires.part c.requires.floor
