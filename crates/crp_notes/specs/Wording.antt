-- How notes are worded. A note is one line.
use Rattle.std.specs.Prelude.{ℕ, nat_lt, ◌==◌, List, [], ◌∷◌, ◌++◌, length, take, map, flat_map, if◌then◌else◌, Bool, codes, decimal}
use Rattle.std.specs.List.{list_all}
use Rattle.crp_plan.specs.BayNames.{YardBay}

-- the line of a note that has these parts
abbrev pub note_of : List (List ℕ) → List ℕ
note_of parts = codes "crp: note: " ++ (flat_map (λ part. part) parts ++ 10 ∷ [])

-- a name in quotes: of one with more than 35 bytes the first 35, and two points behind
abbrev pub quoted : List ℕ → List ℕ
quoted name = 34 ∷ (take 35 name ++ (if nat_lt 35 (length name) then codes "\".." else codes "\""))

-- words with commas between them, and that there are more
abbrev pub joined : List (List ℕ) → Bool → List ℕ
joined [] more = []
joined (first ∷ others) more = first ++ (flat_map (λ other. codes ", " ++ other) others ++ (if more then codes " and others" else []))

-- names in quotes with commas between them, and that there are more
abbrev pub listed : List (List ℕ) → Bool → List ℕ
listed names more = joined (map quoted names) more

-- a message says that it is no original
abbrev pub function_note : ℕ → List ℕ → List ℕ → List ℕ
function_note message function words = note_of (
    codes "message " ∷ decimal message ∷ codes " is no original, its BGM has function " ∷ quoted function ∷ words
    ∷ codes "; it is read as an order all the same, so check that it is to be loaded" ∷ [])

-- the words name this reference, and no message has it
abbrev pub unknown_message_note : List ℕ → List ℕ
unknown_message_note reference = note_of (codes "no message has the reference " ∷ quoted reference ∷ codes ", which --message names" ∷ [])

-- no container is ordered under the loading code, and the message has no handling code
abbrev pub no_codes_note : List ℕ → List ℕ
no_codes_note code = note_of (codes "no container is ordered under the handling code " ∷ quoted code ∷ codes "; the message has no handling code" ∷ [])

-- no container is ordered under the loading code, and the message has these codes
abbrev pub codes_note : List ℕ → List (List ℕ) → Bool → List ℕ
codes_note code found more = note_of (
    codes "no container is ordered under the handling code " ∷ quoted code ∷ codes "; the message has " ∷ listed found more
    ∷ codes ": choose with --code what is loaded, or look for LOC+147 and EQD+CN under it" ∷ [])

-- so many orders stand under another handling code, of the message with this number where there are several
abbrev pub unread_note : Bool → ℕ → List ℕ → ℕ → List ℕ
unread_note several message code orders = note_of (
    (if several then codes "message " ++ (decimal message ++ codes ": ") else []) ∷ decimal orders
    ∷ (if nat_lt 1 orders then codes " orders under the handling code " else codes " order under the handling code ") ∷ quoted code
    ∷ (if nat_lt 1 orders then codes " are not read" else codes " is not read") ∷ codes ": choose with --code what is loaded" ∷ [])

-- several messages stand in one interchange, and their containers are mixed
abbrev pub messages_note : ℕ → List ℕ
messages_note messages = note_of (
    codes "the interchange has " ∷ decimal messages
    ∷ codes " messages, and --order stowage mixes their containers: put each into a file of its own if they are for different ships" ∷ [])

-- a slot, and the first two of the containers that are ordered to it
abbrev pub containers_words : List (List ℕ) → List ℕ
containers_words [] = []
containers_words (name ∷ names) = codes " (" ++ (listed (take 2 (name ∷ names)) (nat_lt 2 (length (name ∷ names))) ++ codes ")")

abbrev pub slot_words : List ℕ → List (List ℕ) → List ℕ
slot_words slot names = quoted slot ++ containers_words names

-- so many orders name a slot that another order names too: the first of these slots, with their containers
abbrev pub slots_note : ℕ → List (List ℕ) → Bool → List ℕ
slots_note count slots more = note_of (decimal count ∷ codes " orders name a slot that another order names too: " ∷ joined slots more ∷ [])

-- ordered containers are not in the yard: so many, and the first of them
abbrev pub absent_note : ℕ → List (List ℕ) → Bool → List ℕ
absent_note count names more = note_of (
    decimal count ∷ (if nat_lt 1 count then codes " ordered containers are not in the yard: " else codes " ordered container is not in the yard: ")
    ∷ listed names more ∷ [])

-- an ordered container is like one of the yard
abbrev pub alike_note : List ℕ → List ℕ → List ℕ
alike_note ordered standing = note_of (
    quoted ordered ∷ codes " differs from " ∷ quoted standing ∷ codes " in the yard by blanks, dashes or small letters alone: write both alike" ∷ [])

-- a bay by its name, and with the word before it
abbrev pub bay_name : YardBay → List ℕ
bay_name bay = bay.block ++ (codes " " ++ decimal bay.bay)

abbrev pub bay_words : YardBay → List ℕ
bay_words bay = codes "bay " ++ bay_name bay

-- the words name this bay, and the yard has it not
abbrev pub unknown_bay_note : YardBay → List ℕ
unknown_bay_note bay = note_of (codes "the yard list has no " ∷ bay_words bay ∷ codes ", which --bay names" ∷ [])

-- the tiers of rows: `8 tiers` where each has so many, else those of each row, as `8.8.5 tiers`
abbrev pub tiers_words : List ℕ → List ℕ
tiers_words [] = []
tiers_words (height ∷ heights) = decimal height ++ (
    if list_all (λ other. other == height) heights then (if nat_lt 1 height then codes " tiers" else codes " tier")
    else flat_map (λ other. 46 ∷ decimal other) heights ++ codes " tiers")

-- which bays are so: by its name where there is one, else so many, with the first of them
abbrev pub which_words : YardBay → ℕ → List ℕ
which_words first bays =
    if nat_lt 1 bays then decimal bays ++ (codes " bays (" ++ (bay_name first ++ codes " is the first) are")) else bay_words first ++ codes " is"

-- so many bays of these heights, of which this one is the first, are planned with places beyond this row or this tier
abbrev pub beyond_note : List ℕ → YardBay → ℕ → ℕ → ℕ → List ℕ
beyond_note heights first bays row tier = note_of (
    which_words first bays ∷ codes " planned with " ∷ decimal (length heights) ∷ codes " rows of " ∷ tiers_words heights
    ∷ codes ", and nothing stands beyond row " ∷ decimal row ∷ codes " or tier " ∷ decimal tier ∷ codes ": look at --sizes" ∷ [])

-- so many bays, of which this one is the first, are left out by the list of sizes, and so taken to have rows of these heights
abbrev pub unlisted_note : List ℕ → YardBay → ℕ → List ℕ
unlisted_note heights first bays = note_of (
    which_words first bays ∷ codes " taken to have " ∷ decimal (length heights) ∷ codes " rows of " ∷ tiers_words heights
    ∷ (if nat_lt 1 bays then codes ", since --sizes does not list them; the bays of their block that are listed all hold more containers, or all hold fewer"
    else codes ", since --sizes does not list it; the bays of its block that are listed all hold more containers, or all hold fewer") ∷ [])

-- a bay is left open
abbrev pub open_note : YardBay → List ℕ → List ℕ
open_note bay advice = note_of (bay_words bay ∷ codes " is left open, since " ∷ advice ∷ [])

-- a bay has no plan
abbrev pub no_plan_note : YardBay → List ℕ
no_plan_note bay = note_of (
    bay_words bay
    ∷ codes " has no plan, since its rows and tiers leave no room to reach what is ordered: if it has more, say so by --rows, --tiers, --heights or --sizes, or choose another order of leaving by --order" ∷ [])

-- the file of certificates has grown past so many bytes
abbrev pub size_note : ℕ → YardBay → List ℕ
size_note largest bay = note_of (
    codes "with " ∷ bay_words bay ∷ codes " the certificates have more than " ∷ decimal largest
    ∷ codes " bytes, which crp check takes with --any-size alone" ∷ [])

-- a report that is followed does not take these ordered containers of a bay: how many, and the first of them
abbrev pub left_note : YardBay → List (List ℕ) → List ℕ
left_note bay names = note_of (
    bay_words bay ∷ codes ": the report does not take " ∷ decimal (length names)
    ∷ (if nat_lt 1 (length names) then codes " ordered containers: " else codes " ordered container: ") ∷ listed (take 10 names) (nat_lt 10 (length names)) ∷ [])

-- the ship gets fewer containers than are said to be loaded
abbrev pub loaded_note : ℕ → ℕ → List ℕ
loaded_note loaded sequenced = note_of (
    codes "the message orders " ∷ decimal sequenced
    ∷ (if sequenced == 1 then codes " container, and --loaded says " else codes " containers, and --loaded says ") ∷ decimal loaded
    ∷ codes ": all moves up to the last of them are made" ∷ [])

-- so many notes are left out
abbrev pub more_note : ℕ → List ℕ
more_note count = note_of (decimal count ∷ codes " more notes are not shown" ∷ [])
