-- What the types of the program stand for.
use Rattle.std.specs.Prelude.{ℕ, List, option_map}
use Rattle.crp_follow.specs.declared.stated.StatedBay.{StatedBay}
use Rattle.crp_follow.specs.declared.followed.FollowedBay.{FollowedBay}
use Rattle.crp_follow.specs.declared.taking.Taken.{Taken}
use Rattle.crp_follow.specs.declared.columns.Columns.{Columns}
use Rattle.crp_follow.specs.declared.lines.UnreadLines.{UnreadLines}
use Rattle.crp_follow.specs.Lines.{Line, pieces_of, numbered}
use Rattle.crp_follow.specs.Stated.{BayStated}
use Rattle.crp_follow.specs.Followed.{BayFollowed}
use Rattle.crp_follow.specs.Table.{MoveColumns}

abbrev pub bay_stated : StatedBay → BayStated
bay_stated b = record { line = b.line; bay = b.bay; said = b.said; moves = b.moves.items }

abbrev pub bay_followed : FollowedBay → BayFollowed
bay_followed b = record { stated = bay_stated b.stated; start = b.start.items; after = b.after.items }

-- a container that leaves, with its step
abbrev pub taken_as : Taken → ℕ × List ℕ
taken_as t = (t.step, t.container.now)

-- what the table says of a move
abbrev pub columns_as : Columns → MoveColumns
columns_as c = record { bay = c.bay.now; step = c.step; said = c.said.now; leaves = c.leaves; next = option_map (λ container. container.now) c.next; left = c.left }

-- the lines that are not read yet
abbrev pub unread_lines : UnreadLines → List Line
unread_lines u = numbered u.first (pieces_of u.bytes.now)
