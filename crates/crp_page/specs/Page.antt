-- The page of a report that is followed over a yard.
use Rattle.std.specs.Prelude.{ℕ, List, ◌++◌, length, Option, None, codes}
use Rattle.crp_yard.specs.Inventory.{Inventory}
use Rattle.crp_follow.specs.Followed.{BayFollowed}
use Rattle.crp_loading.specs.Turns.{ShipOrder}
use Rattle.crp_page.specs.declared.constants.TheConstants.{HEAD_OF_PAGE, KEY}
use Rattle.crp_page.specs.declared.ordered.OrderNumbers.{OrderNumbers}
use Rattle.crp_page.specs.Numbered.{numbered_text}
use Rattle.crp_page.specs.Grounds.{sizes, hidden_ground}
use Rattle.crp_page.specs.Summary.{paragraph, table}
use Rattle.crp_page.specs.Sections.{section}
use Rattle.crp_page.specs.Turns.{turns_part}
use Rattle.crp_page.specs.Sheets.{ship_rule}

-- the head, with the ship on each sheet where there is one, and where the body begins
abbrev pub page_head : List ℕ → Option ShipOrder → List ℕ
page_head heights ship =
    HEAD_OF_PAGE.now ++ (ship_rule ship ++ (codes "</style></head><body><main style=\"" ++ (sizes heights ++ codes "\">\n<h1>Crane moves</h1>\n")))

-- the key of the pictures, and their ground
abbrev pub page_key : List ℕ → List ℕ
page_key heights = KEY.now ++ hidden_ground None heights

-- what stands before the sections: the sizes and the ground are those of a bay that is not listed
abbrev pub page_front : Inventory → OrderNumbers → Option ShipOrder → List BayFollowed → List ℕ
page_front yard n ship bays =
    page_head yard.sizes.common ship ++ (paragraph (length yard.bays) n bays ++ (table bays ++ page_key yard.sizes.common))

-- the page, with the ship's order where there is one
abbrev pub page_text : Inventory → OrderNumbers → Option ShipOrder → List BayFollowed → List ℕ
page_text yard n ship bays =
    page_front yard n ship bays ++ (turns_part ship bays ++ (numbered_text (section yard.sizes ship) 1 bays ++ codes "</main></body></html>\n"))
