use Rattle.std.proofs.Common.{inl, inr, refl}
use Rattle.std.proofs.KnownBytes.{Keeps-refl}
use Rattle.crp_plan.proofs.Interruptions.{has_failed}
use Rattle.crp_commands.proofs.Noted.{tells_some, tells_none}
use Rattle.crp_commands.proofs.noting.note_if_none.Goals as goal

pub returns-then-number-gt1 : goal.returns-then-number-gt1
returns-then-number-gt1 g c stated next = tells_some c.args.number stated _ c.if-number-gt1.true next (Keeps-refl _, refl)

pub returns-in_default : goal.returns-in_default
returns-in_default g c stated next = tells_none c.args.number stated _ c.if-number-gt1.false next (inr (c.in_default.ensures.part, has_failed c.in_default.ensures.gave_up.1))

pub returns : goal.returns
returns g c stated next = tells_none c.args.number stated _ c.if-number-gt1.false next (inl c.in-Ok.ensures.all)
