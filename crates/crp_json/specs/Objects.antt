-- The JSON object of each entry of what is printed, by its tokens.
use Rattle.std.specs.Prelude.{ℕ, Bool, true, false, if◌then◌else◌, List, [], ◌∷◌, ◌++◌, flat_map, Option, Some, None, codes, decimal}
use Rattle.std.specs.Str.{is_utf8}
use Rattle.hex.specs.Hex.{encode_lower}
use Rattle.json.specs.Token.{Token, begin_object, end_object, begin_array, end_array, key, string, number, boolean, null}
use Rattle.crp_plan.specs.BayNames.{YardBay}
use Rattle.crp_checker.specs.declared.verdict.Verdict.{Verdict}
use Rattle.crp_checker.specs.declared.verdict.Verdict.TheVariants as verdict
use Rattle.crp_said.specs.declared.numbers.Numbers.{Numbers}
use Rattle.crp_said.specs.declared.said.Said.{Said}
use Rattle.crp_said.specs.declared.said.Said.TheVariants.{Optimal, First, NoPlan, Between, Outside}
use Rattle.crp_said.specs.declared.moves.Place.{Place}
use Rattle.crp_said.specs.declared.moves.SaidMove.{SaidMove}
use Rattle.crp_said.specs.declared.moves.SaidMove.TheVariants.{Shift, Take}
use Rattle.crp_said.specs.Said.{cause_words, count_said}
use Rattle.crp_json.specs.declared.entry.BayBounds.{BayBounds}
use Rattle.crp_json.specs.declared.entry.ChainRank.{ChainRank}
use Rattle.crp_json.specs.declared.entry.Chains.{Chains}
use Rattle.crp_json.specs.declared.entry.Entry.{Entry}
use Rattle.crp_json.specs.declared.entry.Entry.TheVariants as entry

-- ---- values

-- an object with these members, and an array with these items
abbrev pub object : List Token → List Token
object members = begin_object ∷ (members ++ end_object ∷ [])

abbrev pub array : List Token → List Token
array items = begin_array ∷ (items ++ end_array ∷ [])

-- a member of an object
abbrev pub member : List ℕ → List Token → List Token
member name value = key name ∷ value

abbrev pub text_token : List ℕ → List Token
text_token bytes = string bytes ∷ []

abbrev pub number_token : ℕ → List Token
number_token n = number (decimal n) ∷ []

-- a number, or null where there is none
abbrev pub number_or_null : Option ℕ → List Token
number_or_null None = null ∷ []
number_or_null (Some n) = number_token n

-- ---- a bay

-- what is known: that the fewest relocations are known, that there is no plan, or that bounds are; or that the moves are no plan by the rule
abbrev pub verdict_words : Said → List ℕ
verdict_words (Optimal count) = codes "optimal"
verdict_words (First count) = codes "optimal"
verdict_words NoPlan = codes "no plan"
verdict_words (Between lower upper cause) = codes "between"
verdict_words (Outside count) = codes "outside the rule"

-- the relocations that each plan has at least
abbrev pub lower_said : Said → Option ℕ
lower_said (Optimal count) = Some count
lower_said (First count) = Some count
lower_said NoPlan = None
lower_said (Between lower upper cause) = Some lower
lower_said (Outside count) = None

-- the printed plan is the first of the best
abbrev pub is_first : Said → Bool
is_first (Optimal count) = false
is_first (First count) = true
is_first NoPlan = false
is_first (Between lower upper cause) = false
is_first (Outside count) = false

-- why the bay is left open, or null where it is not
abbrev pub cause_tokens : Said → List Token
cause_tokens (Optimal count) = null ∷ []
cause_tokens (First count) = null ∷ []
cause_tokens NoPlan = null ∷ []
cause_tokens (Between lower upper cause) = text_token (cause_words cause)
cause_tokens (Outside count) = text_token (codes "edited")

-- the name of a bay
abbrev pub bay_tokens : YardBay → List Token
bay_tokens bay = object (member (codes "block") (text_token bay.block) ++ member (codes "bay") (number_token bay.bay))

abbrev pub place_tokens : Place → List Token
place_tokens p = object (member (codes "row") (number_token p.row) ++ member (codes "tier") (number_token p.tier))

-- the member of a text: its bytes, or under the other name the hexadecimal digits of its bytes where they are no UTF-8
abbrev pub bytes_member : List ℕ → List ℕ → List ℕ → List Token
bytes_member name hex_name bytes = if is_utf8 bytes then member name (text_token bytes) else member hex_name (text_token (encode_lower bytes))

-- the member that names a container
abbrev pub container_member : List ℕ → List Token
container_member name = bytes_member (codes "container") (codes "container_hex") name

-- what a move does, and where and to which container
abbrev pub move_members : SaidMove → List Token
move_members (Shift from to container) = member (codes "move") (text_token (codes "shift")) ++ member (codes "from") (place_tokens from)
    ++ member (codes "to") (place_tokens to) ++ container_member container
move_members (Take from container) = member (codes "move") (text_token (codes "take")) ++ member (codes "from") (place_tokens from) ++ container_member container

abbrev pub move_tokens : SaidMove → List Token
move_tokens m = object (move_members m)

-- what is said of the fewest relocations
abbrev pub said_members : Said → List Token
said_members said = member (codes "verdict") (text_token (verdict_words said)) ++ member (codes "lower") (number_or_null (lower_said said))
    ++ member (codes "upper") (number_or_null (count_said said)) ++ member (codes "first") (boolean (is_first said) ∷ []) ++ member (codes "cause") (cause_tokens said)

-- ---- what a certificate shows

abbrev pub known_words : Verdict → List ℕ
known_words (verdict.Optimal count) = codes "optimal"
known_words (verdict.First count) = codes "optimal"
known_words verdict.NoPlan = codes "no plan"
known_words (verdict.Bounds lower upper) = codes "between"

-- the relocations that each plan has at least
abbrev pub lower_shown : Verdict → Option ℕ
lower_shown (verdict.Optimal count) = Some count
lower_shown (verdict.First count) = Some count
lower_shown verdict.NoPlan = None
lower_shown (verdict.Bounds lower upper) = Some lower

-- the relocations of its plan, if it has one
abbrev pub upper_shown : Verdict → Option ℕ
upper_shown (verdict.Optimal count) = Some count
upper_shown (verdict.First count) = Some count
upper_shown verdict.NoPlan = None
upper_shown (verdict.Bounds lower upper) = upper

-- its plan is the first of the best
abbrev pub is_first_shown : Verdict → Bool
is_first_shown (verdict.Optimal count) = false
is_first_shown (verdict.First count) = true
is_first_shown verdict.NoPlan = false
is_first_shown (verdict.Bounds lower upper) = false

abbrev pub shown_members : Verdict → List Token
shown_members shown = member (codes "verdict") (text_token (known_words shown)) ++ member (codes "lower") (number_or_null (lower_shown shown))
    ++ member (codes "upper") (number_or_null (upper_shown shown)) ++ member (codes "first") (boolean (is_first_shown shown) ∷ [])

-- ---- chains

-- a rank behind others: in the same array, or first in the next one
abbrev pub rank_tokens : ChainRank → List Token
rank_tokens r = (if r.begins then end_array ∷ begin_array ∷ [] else []) ++ number_token r.rank

-- an array of ranks for each chain
abbrev pub ranks_tokens : List ChainRank → List Token
ranks_tokens [] = []
ranks_tokens (r ∷ ranks) = begin_array ∷ (number_token r.rank ++ (flat_map rank_tokens ranks ++ end_array ∷ []))

abbrev pub chains_tokens : Option Chains → List Token
chains_tokens None = null ∷ []
chains_tokens (Some c) = object (member (codes "bound") (number_token c.bound) ++ member (codes "ranks") (array (ranks_tokens c.ranks.items)))

-- ---- the objects

-- the first line: the version of this format, what writes it, and these words, by which it was asked for
abbrev pub head_object : List ℕ → List Token → List Token
head_object version words = object (member (codes "format") (number_token 1) ++ member (codes "program") (text_token (codes "crp"))
    ++ member (codes "version") (text_token version) ++ member (codes "words") (array words))

abbrev pub numbers_object : Numbers → List Token
numbers_object n = object (member (codes "orders") (number_token n.orders) ++ member (codes "open") (number_token n.vacant) ++ member (codes "absent") (number_token n.absent))

abbrev pub bay_object : YardBay → Said → List SaidMove → List Token
bay_object bay said moves = object (member (codes "bay") (bay_tokens bay) ++ said_members said ++ member (codes "moves") (array (flat_map move_tokens moves)))

abbrev pub last_object : ℕ → ℕ → List Token
last_object bays decided = object (member (codes "bays") (number_token bays) ++ member (codes "decided") (number_token decided))

abbrev pub shown_object : YardBay → Verdict → List Token
shown_object bay shown = object (member (codes "bay") (bay_tokens bay) ++ shown_members shown)

abbrev pub audited_object : ℕ → List Token
audited_object bays = object (member (codes "audited") (number_token bays))

abbrev pub bounds_object : BayBounds → List Token
bounds_object b = object (member (codes "bay") (bay_tokens b.bay) ++ member (codes "blocking") (number_token b.blocking)
    ++ member (codes "look_ahead") (number_token b.look_ahead) ++ member (codes "chains") (chains_tokens b.chains))

abbrev pub entry_object : Entry → List Token
entry_object (entry.First numbers) = numbers_object numbers
entry_object (entry.Bay b) = bay_object b.bay b.said b.moves.items
entry_object (entry.Last bays decided) = last_object bays decided
entry_object (entry.Certified b) = shown_object b.bay b.verdict
entry_object (entry.Audited bays) = audited_object bays
entry_object (entry.Bounds b) = bounds_object b
