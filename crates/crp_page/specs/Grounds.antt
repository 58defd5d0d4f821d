-- What the figures of a bay stand on: how large they are, and which ground is under them. A bay that is listed with heights of its own has its own.
use Rattle.std.specs.Prelude.{ℕ, ◌+◌, ◌*◌, max, nat_le, List, ◌++◌, length, Option, option_map, codes, decimal, if◌then◌else◌}
use Rattle.crp_plan.specs.BayNames.{YardBay}
use Rattle.crp_plan.specs.Rows.{tallest}
use Rattle.crp_sizes.specs.Sizes.{YardSizes, heights_of, heights_at}
use Rattle.crp_picture.specs.Pictures.{ground_picture}
use Rattle.crp_page.specs.declared.grounds.Ground.{Ground}

-- how wide a figure of so many rows is on paper, three to five in a row, and how the sheet lies: across for the widest
abbrev pub on_paper : ℕ → List ℕ
on_paper rows =
    if nat_le rows 4 then codes "20%;page:tall"
    else (if nat_le rows 6 then codes "25%;page:tall"
    else (if nat_le rows 8 then codes "33%;page:tall" else codes "30%;page:wide"))

-- the sizes of a column of the screen, and of a figure on paper
abbrev pub column_sizes : ℕ → List ℕ
column_sizes rows = codes "px;--c:" ++ (decimal (max 224 (22 + 40 * rows)) ++ (codes "px;--q:" ++ on_paper rows))

-- the sizes of a picture, of about a figure, and of a column, for rows of these heights
abbrev pub sizes : List ℕ → List ℕ
sizes heights = codes "--w:" ++ (decimal (22 + 40 * length heights) ++ (codes "px;--h:" ++ (decimal (83 + 32 * tallest heights) ++ column_sizes (length heights))))

-- the ground of rows of these heights, for figures to stand on
abbrev pub hidden_ground : Option ℕ → List ℕ → List ℕ
hidden_ground number heights = codes "<svg class=\"z\" aria-hidden=\"true\"><defs>" ++ (ground_picture number heights ++ codes "</defs></svg>\n")

-- what the figures of a bay stand on in the section with this number: its rows and the tiers of the highest, and the section's own ground where the
-- bay is listed, else the one of the page
abbrev pub ground_of : YardSizes → ℕ → YardBay → Ground
ground_of yard k bay = record {
  rows = length (heights_at yard bay);
  tiers = tallest (heights_at yard bay);
  number = option_map (λ heights. k) (heights_of yard.listed bay);
}
