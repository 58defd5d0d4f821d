use Rattle.std.proofs.Common.{refl}
use Rattle.crp_notes.proofs.Unlisting.{outside_by}
use Rattle.crp_notes.proofs.unlisted.is_outside.Goals as goal

pub returns-then-hold_fewer : goal.returns-then-hold_fewer
returns-then-hold_fewer c =
    rw (outside_by c.args.rooms.now c.args.block.now c.args.room, ← c.has_block.ensures, ← c.hold_fewer.ensures, c.if-has_block.true, c.if-hold_fewer.true) refl

pub returns-else-hold_fewer : goal.returns-else-hold_fewer
returns-else-hold_fewer c =
    rw (outside_by c.args.rooms.now c.args.block.now c.args.room, ← c.has_block.ensures, ← c.hold_fewer.ensures, ← c.hold_more.ensures, c.if-has_block.true, c.if-hold_fewer.false) refl

pub returns-else-has_block : goal.returns-else-has_block
returns-else-has_block c =
    rw (outside_by c.args.rooms.now c.args.block.now c.args.room, ← c.has_block.ensures, c.if-has_block.false) refl
