use Rattle.std.proofs.Common.{refl}
use Rattle.crp_page.proofs.section.section_end.Goals as goal

pub returns : goal.returns
returns c = rw (c.in_ok-extend_from_slice.ensures.items, c.in_ok-push_end_part.ensures, c.new-text.ensures.items) refl
