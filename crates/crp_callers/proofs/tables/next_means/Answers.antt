use Rattle.crp_follow.specs.Table.{takes_from, next_to_leave}
use Rattle.crp_callers.proofs.Plain.{either_way}
use Rattle.crp_callers.proofs.tables.next_means.Goals as goal

pub returns : goal.returns
returns c = λ moves step.
    either_way (next_to_leave (takes_from 1 moves) step) _ _ (λ is later container after. c.what_columns_say.ensures.none moves step later container is after)
    (c.what_columns_say.ensures.next moves step)
