use Rattle.std.proofs.Common.{◌↔◌, IsTrue, [], sym, subst}
use Rattle.crp_thinning.specs.Stages.{is_done}
use Rattle.crp_thinning.specs.Owed.{Following, Takes}
use Rattle.crp_thinning.proofs.Following.{ended}
use Rattle.crp_thinning.proofs.follower.Follower.is_done.Goals as goal

pub returns : goal.returns
returns c =
    subst (λ b. IsTrue b ↔ Takes c.args.self.now []) (sym c.is_done.ensures)
    (subst (λ (f : Following). IsTrue (is_done c.self.inside.stage) ↔ Takes f []) c.self.view_is (ended c.self.inside.stage c.self.inside.path c.self.inside.reading c.self.invariant))
