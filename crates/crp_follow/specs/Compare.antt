-- The table of the bays of two reports of one yard, for spreadsheets: that of the first report, and in each record what the second one says of the same bay. The bays
-- that the second report alone has come last, in its order.
use Rattle.std.specs.Prelude.{ℕ, pos, ◌-ℤ◌, List, [], ◌∷◌, ◌++◌, length, map, drop, Option, Some, None, is_none, option_map, codes, decimal}
use Rattle.std.specs.Fmt.{signed_decimal}
use Rattle.std.specs.List.{filter}
use Rattle.std.specs.Map.{lookup}
use Rattle.crp_plan.specs.BayNames.{YardBay, same_bay}
use Rattle.crp_yard.specs.Text.{text_of_records}
use Rattle.crp_said.specs.Said.{count_said}
use Rattle.crp_follow.specs.Followed.{BayFollowed}
use Rattle.crp_follow.specs.Summary.{summary_header, summary_fields, verdict_of, relocations_of}

-- the columns of the second report
abbrev pub second_header : List (List ℕ)
second_header = codes "second_verdict" ∷ codes "second_moves" ∷ codes "second_relocations" ∷ codes "difference" ∷ []

-- the bay of this name, if one of these has it
abbrev pub bay_named : List BayFollowed → YardBay → Option BayFollowed
bay_named bays name = lookup (same_bay name) (map (λ b. (b.stated.bay, b)) bays)

-- the relocations of the plan of a bay, if its line says that one is printed
abbrev pub plan_relocations : BayFollowed → Option ℕ
plan_relocations b = option_map (λ count. relocations_of b) (count_said b.stated.said)

-- how many relocations more the second plan has than the first, where there are both: below zero where it has fewer
abbrev pub difference_field : Option ℕ → Option ℕ → List ℕ
difference_field (Some first) (Some second) = signed_decimal (pos second -ℤ pos first)
difference_field (Some first) None = []
difference_field None second = []

-- what the second report says of a bay: its verdict, how many moves it has, and how many of them are relocations
abbrev pub second_fields : BayFollowed → List (List ℕ)
second_fields b = verdict_of b.stated.said ∷ decimal (length b.stated.moves) ∷ decimal (relocations_of b) ∷ []

-- what stands behind the summary of a bay: what the second report says of it, if it has the bay, and the difference
abbrev pub fields_beside : BayFollowed → Option BayFollowed → List (List ℕ)
fields_beside b None = [] ∷ [] ∷ [] ∷ [] ∷ []
fields_beside b (Some second) = second_fields second ++ difference_field (plan_relocations b) (plan_relocations second) ∷ []

-- the record of a bay of the first report, where these are the bays of the second
abbrev pub compared_fields : List BayFollowed → BayFollowed → List (List ℕ)
compared_fields seconds b = summary_fields b ++ fields_beside b (bay_named seconds b.stated.bay)

-- what a summary says of a bay of which nothing is known but its name
abbrev pub name_fields : YardBay → List (List ℕ)
name_fields bay = bay.block ∷ decimal bay.bay ∷ map (λ name. []) (drop 2 summary_header)

-- the record of a bay that the second report alone has
abbrev pub second_alone_fields : BayFollowed → List (List ℕ)
second_alone_fields b = name_fields b.stated.bay ++ (second_fields b ++ [] ∷ [])

-- the bays that the second report alone has
abbrev pub second_alone : List BayFollowed → List BayFollowed → List BayFollowed
second_alone firsts seconds = filter (λ b. is_none (bay_named firsts b.stated.bay)) seconds

-- the text of the table, as csv writes records by its defaults
abbrev pub compare_text : List BayFollowed → List BayFollowed → List ℕ
compare_text firsts seconds =
    text_of_records ((summary_header ++ second_header) ∷ (map (compared_fields seconds) firsts ++ map second_alone_fields (second_alone firsts seconds)))
