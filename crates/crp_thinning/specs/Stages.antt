-- The stages of a text that is followed.
use Rattle.std.specs.Prelude.{Bool, true, false}
use Rattle.crp_thinning.specs.declared.stage.Stage.{Stage}
use Rattle.crp_thinning.specs.declared.stage.Stage.TheVariants as stage

-- all trees have come
abbrev pub is_done : Stage → Bool
is_done stage.Tree = false
is_done stage.Family = false
is_done stage.Done = true
is_done stage.Refused = false

-- nothing fits
abbrev pub is_refused : Stage → Bool
is_refused stage.Tree = false
is_refused stage.Family = false
is_refused stage.Done = false
is_refused stage.Refused = true
