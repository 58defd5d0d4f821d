use Rattle.std.proofs.Common.{true, false, sym, ◌∙◌}
use Rattle.crp_notes.proofs.Saying.{equipment}
use Rattle.crp_notes.proofs.message.container_said.Goals as goal

pub returns-then-names_container : goal.returns-then-names_container
returns-then-names_container c = (equipment c.args.segment.now true c.requires (sym c.names_container.ensures ∙ c.if-names_container.true), c.component.ensures)

pub returns-else-names_container : goal.returns-else-names_container
returns-else-names_container c = equipment c.args.segment.now false c.requires (sym c.names_container.ensures ∙ c.if-names_container.false)
