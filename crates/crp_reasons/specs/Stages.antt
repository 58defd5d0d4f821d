-- The stages of a reader of reasons.
use Rattle.std.specs.Prelude.{Bool, true, false}
use Rattle.crp_reasons.specs.declared.stage.Stage.{Stage}
use Rattle.crp_reasons.specs.declared.stage.Stage.TheVariants as stage
use Rattle.crp_reasons.specs.Rests.{Left, Number, Digits, Text, Whole, Refused}

-- what is still to come at a stage
abbrev pub left_at : Stage → Left
left_at (stage.Number place) = Number place.place
left_at (stage.Digits place number) = Digits place.place number
left_at (stage.Text number follower) = Text number follower
left_at (stage.Whole number shown) = Whole number shown
left_at stage.Refused = Refused

-- the text is read
abbrev pub is_text : Stage → Bool
is_text (stage.Number place) = false
is_text (stage.Digits place number) = false
is_text (stage.Text number follower) = true
is_text (stage.Whole number shown) = false
is_text stage.Refused = false
