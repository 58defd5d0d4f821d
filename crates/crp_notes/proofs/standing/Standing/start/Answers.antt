use Rattle.std.proofs.Common.{refl}
use Rattle.crp_movins.specs.Kinds.{kind_of}
use Rattle.crp_movins.specs.Places.{kind_at}
use Rattle.crp_notes.proofs.standing.Standing.start.Goals as goal

pub returns : goal.returns
unfolding kind_at kind_of
returns c segments loading = record { messages = refl; read = refl; in_force = refl; group = refl; container = refl; code = refl; orders = refl; opened = refl }
