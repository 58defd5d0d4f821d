use Rattle.std.proofs.Common.{append_assoc}
use Rattle.crp_page.proofs.turns.push_turns_body.Goals as goal

pub returns : goal.returns
returns c records sorted =
    let turns = c.in_ok-behind.ensures records sorted in
    rw (c.in_ok-extend_from_slice-2.ensures.items, c.in_ok-push_behind.ensures, c.in_ok-extend_from_slice.ensures.items, turns.0, turns.1) (simp append_assoc)
