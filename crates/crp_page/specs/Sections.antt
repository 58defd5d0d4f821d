-- The section of a bay on the page: its head, and its figures, of the start, of each frame and of the end.
use Rattle.std.specs.Prelude.{ℕ, ◌+◌, ◌*◌, ◌==◌, List, [], ◌∷◌, ◌++◌, flat_map, count_by, Option, Some, None, codes, decimal, if◌then◌else◌}
use Rattle.crp_sizes.specs.Sizes.{YardSizes, heights_of}
use Rattle.crp_follow.specs.Stated.{moves_of}
use Rattle.crp_follow.specs.Followed.{BayFollowed}
use Rattle.crp_follow.specs.Table.{standing}
use Rattle.crp_loading.specs.Turns.{ShipOrder}
use Rattle.crp_picture.specs.Cells.{cells_of}
use Rattle.crp_picture.specs.Frames.{Frame, frames_of}
use Rattle.crp_picture.specs.Pictures.{ground_name, start_picture, frame_picture, end_picture}
use Rattle.crp_page.specs.declared.grounds.Ground.{Ground}
use Rattle.crp_page.specs.Counts.{moves_in, relocations_in, takes_in, left_in}
use Rattle.crp_page.specs.Words.{counted, bay_name, verdict, rows_words, move_to_slot}
use Rattle.crp_page.specs.Grounds.{sizes, hidden_ground, ground_of}

-- ---- a figure

-- where its title begins: the picture of a bay of so many rows, whose highest has so many tiers
abbrev pub figure_head : Ground → List ℕ
figure_head on = codes "<figure><svg viewBox=\"0 0 " ++ (decimal (22 + 40 * on.rows) ++ (32 ∷ (decimal (43 + 32 * on.tiers) ++ codes "\" role=\"img\"><title>")))

-- what stands behind its title: its ground, the picture, and the caption
abbrev pub figure_body : Option ℕ → List ℕ → List ℕ → List ℕ
figure_body number picture caption =
    codes "</title><use href=\"#" ++ (ground_name number ++ (codes "\"/>" ++ (picture ++ (codes "</svg><figcaption>" ++ (caption ++ codes "</figcaption></figure>\n")))))

-- a figure; its title is for readers by ear
abbrev pub figure : Ground → List ℕ → List ℕ → List ℕ → List ℕ
figure on title picture caption = figure_head on ++ (title ++ figure_body on.number picture caption)

-- ---- titles

abbrev pub bay_title : BayFollowed → List ℕ
bay_title b = codes "Bay " ++ bay_name b.stated.bay

abbrev pub start_title : BayFollowed → List ℕ
start_title b = bay_title b ++ (codes " at the start." ++ rows_words b.start)

abbrev pub frame_title : BayFollowed → Frame → List ℕ
frame_title b f = bay_title b ++ (codes " before step " ++ decimal f.step)

abbrev pub end_title : BayFollowed → List ℕ
end_title b = bay_title b ++ (codes " at the end." ++ rows_words b.after)

-- ---- captions

-- how many containers of a bay block at its start
abbrev pub blocking_in : BayFollowed → ℕ
blocking_in b = count_by (λ c. c.blocks) (cells_of (moves_of b.stated.moves) b.start)

-- how many leave, and how many block
abbrev pub leaving_words : BayFollowed → List ℕ
leaving_words b = if moves_in b == 0 then [] else codes ": " ++ (decimal (takes_in b) ++ (codes " leave, " ++ (decimal (blocking_in b) ++ codes " block")))

abbrev pub start_caption : BayFollowed → List ℕ
start_caption b = codes "<p><b>Start</b> " ++ (counted (standing b.start) (codes "container") ++ (leaving_words b ++ codes "</p>"))

-- the moves of a frame, with the slots that they fill where there is a ship
abbrev pub frame_caption : Option ShipOrder → Frame → List ℕ
frame_caption ship f = codes "<ol start=\"" ++ (decimal f.step ++ (codes "\">" ++ (flat_map (move_to_slot ship) (moves_of f.moves) ++ codes "</ol>")))

abbrev pub end_caption : BayFollowed → List ℕ
end_caption b = codes "<p><b>End</b> " ++ (counted (left_in b) (codes "container") ++ codes " left</p>")

-- ---- the figures

abbrev pub start_figure : Ground → BayFollowed → List ℕ
start_figure on b = figure on (start_title b) (start_picture on.tiers b) (start_caption b)

abbrev pub frame_figure : Ground → Option ShipOrder → BayFollowed → Frame → List ℕ
frame_figure on ship b f = figure on (frame_title b f) (frame_picture on.tiers b f) (frame_caption ship f)

abbrev pub end_figure : Ground → BayFollowed → List ℕ
end_figure on b = figure on (end_title b) (end_picture on.tiers b) (end_caption b)

-- ---- the section

-- the moves of a bay, counted
abbrev pub moves_words : BayFollowed → List ℕ
moves_words b =
    if moves_in b == 0 then codes "no moves"
    else counted (moves_in b) (codes "move") ++ (codes ": " ++ (counted (relocations_in b) (codes "relocation") ++ (codes " and " ++ counted (takes_in b) (codes "take"))))

-- where the tag of the section with this number ends: heights of its own set its sizes, and have a ground here
abbrev pub own_part : ℕ → Option (List ℕ) → List ℕ
own_part k None = codes "\">"
own_part k (Some heights) = codes "\" style=\"" ++ (sizes heights ++ (codes "\">" ++ hidden_ground (Some k) heights))

-- the head of the section with this number, of a bay with these heights of its own, or none
abbrev pub section_head : ℕ → Option (List ℕ) → BayFollowed → List ℕ
section_head k own b =
    codes "<section id=\"b" ++ (decimal k ++ (own_part k own ++ (codes "<header><h2>" ++ (bay_title b ++ (codes "</h2><p>" ++ (verdict b.stated.said ++ (codes " &#183; "
    ++ (moves_words b ++ codes "<a class=\"h\" href=\"#\">all bays</a></p></header><div><div>\n"))))))))

-- what stands before the frames, and behind them
abbrev pub section_front : YardSizes → ℕ → BayFollowed → List ℕ
section_front yard k b = section_head k (heights_of yard.listed b.stated.bay) b ++ start_figure (ground_of yard k b.stated.bay) b

abbrev pub end_part : Ground → BayFollowed → List ℕ
end_part on b = if moves_in b == 0 then [] else end_figure on b

abbrev pub section_end : Ground → BayFollowed → List ℕ
section_end on b = end_part on b ++ codes "</div></div></section>\n"

-- the section with this number
abbrev pub section : YardSizes → Option ShipOrder → ℕ → BayFollowed → List ℕ
section yard ship k b =
    section_front yard k b ++ (flat_map (frame_figure (ground_of yard k b.stated.bay) ship b) (frames_of b) ++ section_end (ground_of yard k b.stated.bay) b)
