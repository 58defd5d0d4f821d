use Rattle.std.proofs.Common.{sym, subst, ◌++◌, ◌∷◌, []}
use Rattle.crp_reasons.specs.Rests.{Left, GoesOn, Means}
use Rattle.crp_reasons.specs.Stages.{left_at}
use Rattle.crp_reasons.proofs.Begun.{fed, means}
use Rattle.crp_reasons.proofs.reader.ReasonsReader.feed.Goals as goal

pub returns-clause-means : goal.returns-clause-means
returns-clause-means c place front r =
    let new = left_at c.go_on.new.stage in
    let g : GoesOn c.args.self.now c.args.byte new = subst (λ (old : Left). GoesOn old c.args.byte new) c.self.view_is c.go_on.ensures in
    subst (Means place (front ++ c.args.byte ∷ [])) (sym c.step.ensures) (means place (front ++ c.args.byte ∷ []) new (fed place front c.args.byte c.args.self.now new g r))
