use Rattle.std.proofs.Common.{true, false, sym, ◌∙◌}
use Rattle.crp_notes.proofs.Saying.{location}
use Rattle.crp_notes.proofs.message.slot_said.Goals as goal

pub returns-then-names_slot : goal.returns-then-names_slot
returns-then-names_slot c = (location c.args.segment.now true c.requires (sym c.names_slot.ensures ∙ c.if-names_slot.true), c.component.ensures)

pub returns-else-names_slot : goal.returns-else-names_slot
returns-else-names_slot c = location c.args.segment.now false c.requires (sym c.names_slot.ensures ∙ c.if-names_slot.false)
