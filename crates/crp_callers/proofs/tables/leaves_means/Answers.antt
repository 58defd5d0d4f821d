use Rattle.crp_follow.specs.Table.{takes_from, leaves_at}
use Rattle.crp_callers.proofs.Plain.{either_way}
use Rattle.crp_callers.proofs.tables.leaves_means.Goals as goal

pub returns : goal.returns
returns c = λ moves container.
    either_way (leaves_at (takes_from 1 moves) container) _ _ (λ is step. c.what_columns_say.ensures.stays moves container step is) (c.what_columns_say.ensures.leaves moves container)
