-- What the page says of all bays: the paragraph of counts, and the table.
use Rattle.std.specs.Prelude.{ℕ, ◌+◌, ◌-◌, nat_lt, List, [], ◌∷◌, ◌++◌, length, sum_by, codes, decimal, if◌then◌else◌}
use Rattle.crp_said.specs.declared.numbers.Numbers.{Numbers}
use Rattle.crp_follow.specs.Followed.{BayFollowed}
use Rattle.crp_page.specs.declared.constants.TheConstants.{TABLE_HEAD}
use Rattle.crp_page.specs.declared.counting.Counts.{Counts}
use Rattle.crp_page.specs.declared.ordered.OrderNumbers.{OrderNumbers}
use Rattle.crp_page.specs.declared.ordered.OrderNumbers.TheVariants.{Counted, Stated}
use Rattle.crp_page.specs.Numbered.{numbered_text}
use Rattle.crp_page.specs.Counts.{takes_in, counts_of, sums_of, decided_in}
use Rattle.crp_page.specs.Words.{counted, bay_name, verdict}

-- how many of so many ordered containers are not taken, where so many are known
abbrev pub not_taken : ℕ → ℕ → List ℕ
not_taken orders known = if nat_lt known orders then codes ", " ++ (decimal (orders - known) ++ codes " not taken") else []

-- the loading orders and groups, and the orders of containers that are not in the yard
abbrev pub ordered : Numbers → List ℕ
ordered n = counted n.orders (codes "container") ++ (codes " ordered, " ++ (counted n.vacant (codes "slot") ++ (codes " open, " ++ (decimal n.absent ++ codes " not in the yard"))))

-- these, and who says so: nobody but the report where they are not counted
abbrev pub ordered_by : OrderNumbers → List ℕ
ordered_by (Counted n) = ordered n
ordered_by (Stated n) = ordered n ++ codes ", as the report says"

abbrev pub numbers_in : OrderNumbers → Numbers
numbers_in (Counted n) = n
numbers_in (Stated n) = n

-- how many are taken, and how many of those that stand in the yard are not
abbrev pub taken : Numbers → ℕ → List ℕ
taken n takes = decimal takes ++ (codes " taken by the moves" ++ not_taken n.orders (takes + n.absent))

-- the paragraph of a report of these bays, of a yard that has so many
abbrev pub paragraph : ℕ → OrderNumbers → List BayFollowed → List ℕ
paragraph count n bays =
    codes "<p>" ++ (ordered_by n ++ (codes "; " ++ (taken (numbers_in n) (sum_by takes_in bays) ++ (codes ". " ++ (counted (count - length bays) (codes "bay") ++ codes " of the yard not in the report.</p>\n")))))

-- a number in its cell
abbrev pub cell : ℕ → List ℕ
cell n = codes "<td>" ++ (decimal n ++ codes "</td>")

-- the last four cells of a row
abbrev pub cells : Counts → List ℕ
cells c = cell c.moves ++ (cell c.relocations ++ (cell c.takes ++ (cell c.left ++ codes "</tr>")))

-- the row of the bay with this number
abbrev pub table_row : ℕ → BayFollowed → List ℕ
table_row k b =
    codes "<tr><th scope=\"row\"><a href=\"#b" ++ (decimal k ++ (codes "\">" ++ (bay_name b.stated.bay ++ (codes "</a></th><td>"
    ++ (verdict b.stated.said ++ (codes "</td>" ++ (cells (counts_of b) ++ 10 ∷ [])))))))

-- the last row
abbrev pub table_foot : List BayFollowed → List ℕ
table_foot bays =
    codes "</tbody><tfoot><tr><th scope=\"row\">" ++ (counted (length bays) (codes "bay") ++ (codes "</th><td>" ++ (decimal (decided_in bays) ++ (codes " decided, as the report says</td>"
    ++ (cells (sums_of bays) ++ codes "</tfoot></table>\n")))))

-- the table
abbrev pub table : List BayFollowed → List ℕ
table bays = TABLE_HEAD.now ++ (numbered_text table_row 1 bays ++ table_foot bays)
