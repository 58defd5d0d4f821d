-- The pictures of a bay as SVG. T, the tiers of its highest row, is the same for all of them.
use Rattle.std.specs.Prelude.{ℕ, zero, suc, ◌+◌, ◌-◌, ◌*◌, ◌/◌, ◌==◌, nat_lt, Bool, true, false, ◌&&◌, List, [], ◌∷◌, ◌++◌, length, flat_map, Option, Some, None, codes, decimal, if◌then◌else◌}
use Rattle.std.specs.Str.{bytes_eq}
use Rattle.crp_plan.specs.Rows.{tallest}
use Rattle.crp_yard.specs.Records.{height_of}
use Rattle.crp_said.specs.declared.moves.SaidMove.{SaidMove}
use Rattle.crp_said.specs.declared.moves.SaidMove.TheVariants.{Shift, Take}
use Rattle.crp_follow.specs.declared.stated.StatedMove.{StatedMove}
use Rattle.crp_follow.specs.Crane.{Stack}
use Rattle.crp_follow.specs.Stated.{moves_of}
use Rattle.crp_follow.specs.Followed.{BayFollowed}
use Rattle.crp_picture.specs.declared.cell.Kind.{Kind}
use Rattle.crp_picture.specs.declared.cell.Kind.TheVariants.{Soonest, Soon, Midway, Late, Latest, Stays, Moved, Goal, Taken}
use Rattle.crp_picture.specs.declared.mark.Mark.{Mark}
use Rattle.crp_picture.specs.declared.mark.Mark.TheVariants as mark
use Rattle.crp_picture.specs.declared.wording.Wording.{Wording}
use Rattle.crp_picture.specs.declared.wording.Wording.TheVariants as wording
use Rattle.crp_picture.specs.Names.{spaces, right_in, label}
use Rattle.crp_picture.specs.Grid.{x_of, y_of, stroke_at, bar_at, outline_at, path, line}
use Rattle.crp_picture.specs.Cells.{Cell, cells_of}
use Rattle.crp_picture.specs.Frames.{Frame, frame_cells, aimed_at, rows_behind}

-- ---- marks

-- the letter of what a container is drawn as
abbrev pub letter_of : Kind → ℕ
letter_of Soonest = 48
letter_of Soon = 49
letter_of Midway = 50
letter_of Late = 51
letter_of Latest = 52
letter_of Stays = 115
letter_of Moved = 109
letter_of Goal = 111
letter_of Taken = 116

-- the class of a mark
abbrev pub class_of : Mark → List ℕ
class_of (mark.Box kind) = 107 ∷ letter_of kind ∷ []
class_of mark.Outline = codes "o"
class_of mark.Corner = codes "b"
class_of mark.Up = codes "u"

-- a container gets the mark: the box of its kind; a goal an outline; one that blocks and is not taken a corner; one that is taken an arrow up
abbrev pub has_mark : Mark → Cell → Bool
has_mark (mark.Box kind) c = letter_of c.kind == letter_of kind
has_mark mark.Outline c = letter_of c.kind == 111
has_mark mark.Corner c = if letter_of c.kind == 116 then false else c.blocks
has_mark mark.Up c = letter_of c.kind == 116

-- the mark at a place
abbrev pub mark_at : Mark → ℕ → ℕ → ℕ → List ℕ
mark_at (mark.Box kind) tiers row tier = bar_at tiers row tier
mark_at mark.Outline tiers row tier = outline_at tiers row tier
mark_at mark.Corner tiers row tier = stroke_at 2 2 (codes "h11l-11 11z") tiers row tier
mark_at mark.Up tiers row tier = stroke_at 9 14 (codes "v-8m-4 4 4-4 4 4") tiers row tier

-- the mark of a container, if it gets it
abbrev pub mark_of : ℕ → Mark → Cell → List ℕ
mark_of tiers m c = if has_mark m c then mark_at m tiers c.row c.tier else []

-- one mark at all containers that get it
abbrev pub marked : ℕ → List Cell → Mark → List ℕ
marked tiers cells m = path (class_of m) (flat_map (mark_of tiers m) cells)

-- the marks that are boxes: one for each kind, the outline of a goal among them
abbrev pub boxes : List Mark
boxes =
    mark.Box Soonest ∷ mark.Box Soon ∷ mark.Box Midway ∷ mark.Box Late ∷ mark.Box Latest ∷ mark.Box Stays ∷ mark.Box Moved ∷ mark.Box Taken ∷ mark.Outline ∷ []

-- all marks, in their order
abbrev pub marks : List Mark
marks = boxes ++ mark.Corner ∷ mark.Up ∷ []

-- ---- labels and steps

-- the container at a place, if one stands there
abbrev pub cell_at : List Cell → ℕ → ℕ → Option Cell
cell_at [] row tier = None
cell_at (c ∷ cells) row tier = if (c.row == row) && (c.tier == tier) then Some c else cell_at cells row tier

-- a place has something in a line: a label where a container stands, a step where one stands that leaves
abbrev pub has_piece : Wording → Option Cell → Bool
has_piece w None = false
has_piece wording.Labels (Some c) = true
has_piece wording.Steps (Some c) = nat_lt 0 c.step

-- what stands there: a label of 5 characters, a step in 7; spaces where there is none
abbrev pub piece_of : Wording → Option Cell → List ℕ
piece_of wording.Labels None = spaces 5
piece_of wording.Labels (Some c) = label c.name
piece_of wording.Steps None = spaces 7
piece_of wording.Steps (Some c) = if c.step == 0 then spaces 7 else right_in 7 (decimal c.step)

-- the last row up to this one that has something in the line of a tier; 0 where none has
abbrev pub last_row : Wording → List Cell → ℕ → ℕ → ℕ
last_row w cells tier zero = 0
last_row w cells tier (suc row) = if has_piece w (cell_at cells (suc row) tier) then suc row else last_row w cells tier row

-- what stands in the rows up to this one
abbrev pub pieces_to : Wording → List Cell → ℕ → ℕ → List ℕ
pieces_to w cells tier zero = []
pieces_to w cells tier (suc row) = pieces_to w cells tier row ++ piece_of w (cell_at cells (suc row) tier)

-- the line of a tier of so many rows
abbrev pub line_of : Wording → ℕ → ℕ → List Cell → ℕ → List ℕ
line_of wording.Labels tiers rows cells tier =
    line 108 14 (y_of tiers tier + 26) (last_row wording.Labels cells tier rows) (pieces_to wording.Labels cells tier (last_row wording.Labels cells tier rows))
line_of wording.Steps tiers rows cells tier =
    line 110 13 (y_of tiers tier + 12) (last_row wording.Steps cells tier rows) (pieces_to wording.Steps cells tier (last_row wording.Steps cells tier rows))

-- the lines of the tiers up to this one
abbrev pub lines_to : ℕ → ℕ → List Cell → ℕ → List ℕ
lines_to tiers rows cells zero = []
lines_to tiers rows cells (suc tier) = lines_to tiers rows cells tier ++ (line_of wording.Labels tiers rows cells (suc tier) ++ line_of wording.Steps tiers rows cells (suc tier))

-- containers of so many rows, drawn
abbrev pub drawn : ℕ → ℕ → List Cell → List ℕ
drawn tiers rows cells = flat_map (marked tiers cells) marks ++ lines_to tiers rows cells tiers

-- ---- what a frame has besides

-- an outline round the container of this name
abbrev pub aim_of : ℕ → List ℕ → Cell → List ℕ
aim_of tiers name c = if bytes_eq c.name name then outline_at tiers c.row c.tier else []

-- the outline round the container for which a frame digs, where it stands after the frame
abbrev pub aim : ℕ → List SaidMove → Frame → Option (List ℕ) → List ℕ
aim tiers all f None = []
aim tiers all f (Some name) = path (codes "e") (flat_map (aim_of tiers name) (cells_of all (rows_behind f)))

-- the middle of a row
abbrev pub middle_of : ℕ → ℕ
middle_of row = x_of row + 20

-- an arrow up, across above all stacks and down, and the number of the step on it
abbrev pub arrow_from : ℕ → ℕ → List ℕ
arrow_from a up = 77 ∷ (decimal a ++ 32 ∷ decimal up)

abbrev pub arrow_to : ℕ → ℕ → List ℕ
arrow_to b down = codes "V11H" ++ (decimal b ++ 86 ∷ (decimal down ++ codes "m-5-6 5 6 5-6"))

abbrev pub arrow_strokes : ℕ → ℕ → ℕ → ℕ → List ℕ
arrow_strokes a up b down = arrow_from a up ++ arrow_to b down

abbrev pub arrow_number : ℕ → ℕ → List ℕ
arrow_number middle step =
    path (codes "p") (77 ∷ (decimal (middle - 12) ++ codes " 11h24")) ++ (codes "<text class=\"w\" x=\"" ++ (decimal middle ++ (codes "\" y=\"15\">" ++ (decimal step ++ codes "</text>"))))

-- the arrow of the move of this number, if it is a relocation
abbrev pub arrow : ℕ → ℕ → SaidMove → List ℕ
arrow tiers step (Shift from to container) =
    path (codes "a") (arrow_strokes (middle_of from.row) (y_of tiers from.tier) (middle_of to.row) (y_of tiers to.tier))
    ++ arrow_number ((middle_of from.row + middle_of to.row) / 2) step
arrow tiers step (Take from container) = []

abbrev pub first_arrow : ℕ → ℕ → List StatedMove → List ℕ
first_arrow tiers step [] = []
first_arrow tiers step (m ∷ moves) = arrow tiers step m.said

-- ---- the pictures

-- the position in which these rows stand, where these are all moves of the bay
abbrev pub position_picture : ℕ → List SaidMove → List Stack → List ℕ
position_picture tiers all rows = drawn tiers (length rows) (cells_of all rows)

-- the start and the end of a bay
abbrev pub start_picture : ℕ → BayFollowed → List ℕ
start_picture tiers b = position_picture tiers (moves_of b.stated.moves) b.start

abbrev pub end_picture : ℕ → BayFollowed → List ℕ
end_picture tiers b = position_picture tiers (moves_of b.stated.moves) b.after

-- a frame of the bay
abbrev pub frame_picture : ℕ → BayFollowed → Frame → List ℕ
frame_picture tiers b f =
    drawn tiers (length f.before) (frame_cells (moves_of b.stated.moves) f) ++ (aim tiers (moves_of b.stated.moves) f (aimed_at f) ++ first_arrow tiers f.step f.moves)

-- ---- the ground on which every picture stands

-- the empty places of a row up to this tier
abbrev pub places_of_row : ℕ → ℕ → ℕ → List ℕ
places_of_row tiers row zero = []
places_of_row tiers row (suc tier) = places_of_row tiers row tier ++ bar_at tiers row (suc tier)

-- those of the rows up to this one
abbrev pub places_to : ℕ → List ℕ → ℕ → List ℕ
places_to tiers heights zero = []
places_to tiers heights (suc row) = places_to tiers heights row ++ places_of_row tiers (suc row) (height_of heights (suc row))

-- the numbers of the rows up to this one
abbrev pub row_numbers : ℕ → List ℕ
row_numbers zero = []
row_numbers (suc row) = row_numbers row ++ right_in 7 (decimal (suc row))

-- for each tier up to this one its x, y and number, with spaces between
abbrev pub tier_lefts : ℕ → List ℕ
tier_lefts zero = []
tier_lefts (suc tier) = tier_lefts tier ++ (if tier == 0 then codes "5" else codes " 5")

abbrev pub tier_heights : ℕ → ℕ → List ℕ
tier_heights tiers zero = []
tier_heights tiers (suc tier) = tier_heights tiers tier ++ ((if tier == 0 then [] else codes " ") ++ decimal (y_of tiers (suc tier) + 20))

abbrev pub tier_numbers : ℕ → List ℕ
tier_numbers zero = []
tier_numbers (suc tier) = tier_numbers tier ++ decimal (suc tier)

-- the numbers of the tiers
abbrev pub tiers_head : ℕ → List ℕ
tiers_head tiers = codes "<text class=\"q\" x=\"" ++ (tier_lefts tiers ++ (codes "\" y=\"" ++ tier_heights tiers tiers))

abbrev pub tiers_text : ℕ → List ℕ
tiers_text tiers = tiers_head tiers ++ (codes "\">" ++ (tier_numbers tiers ++ codes "</text>"))

-- the line on which the lowest tier stands
abbrev pub floor_of : ℕ → ℕ → List ℕ
floor_of tiers rows = codes "M18 " ++ (decimal (27 + 32 * tiers) ++ 104 ∷ decimal (40 * rows))

-- the empty places, the line of the ground, and the numbers of rows and tiers
abbrev pub ground_parts : ℕ → List ℕ → List ℕ
ground_parts tiers heights =
    path (codes "f") (places_to tiers heights (length heights))
    ++ (path (codes "g") (floor_of tiers (length heights)) ++ (line 113 1 (40 + 32 * tiers) (length heights) (row_numbers (length heights)) ++ tiers_text tiers))

-- the name of the ground with this number, or of the one without a number
abbrev pub ground_name : Option ℕ → List ℕ
ground_name None = codes "g"
ground_name (Some number) = codes "g" ++ decimal number

abbrev pub ground_picture : Option ℕ → List ℕ → List ℕ
ground_picture number heights = codes "<g id=\"" ++ (ground_name number ++ (codes "\">" ++ (ground_parts (tallest heights) heights ++ codes "</g>")))
