-- The report of a yard: what it says, three numbers, and of each bay its name, what is known of the fewest relocations, and the lines of the moves;
-- and its text. Each line ends with LF.
use Rattle.std.specs.Prelude.{ℕ, Bool, true, false, List, [], ◌∷◌, ◌++◌, length, flat_map, count_by, Option, Some, None, codes, decimal}
use Rattle.crp_plan.specs.BayNames.{YardBay}
use Rattle.crp_said.specs.declared.numbers.Numbers.{Numbers}
use Rattle.crp_said.specs.declared.said.SaidCause.{SaidCause}
use Rattle.crp_said.specs.declared.said.SaidCause.TheVariants.{Budget, Memory, Time, Edited}
use Rattle.crp_said.specs.declared.said.Said.{Said}
use Rattle.crp_said.specs.declared.said.Said.TheVariants.{Optimal, First, NoPlan, Between, Outside}

-- the first line: the loading orders, the loading groups without a container, and the ordered containers that are not in the yard
abbrev pub counts_line : Numbers → List ℕ
counts_line n = codes "orders " ++ (decimal n.orders ++ (codes " open " ++ (decimal n.vacant ++ (codes " absent " ++ (decimal n.absent ++ 10 ∷ [])))))

-- the name of a bay, and a colon
abbrev pub bay_words : YardBay → List ℕ
bay_words bay = codes "bay " ++ (bay.block ++ (32 ∷ (decimal bay.bay ++ codes ": ")))

-- the relocations of the printed plan, if there is one
abbrev pub upper_words : Option ℕ → List ℕ
upper_words None = codes "none"
upper_words (Some count) = decimal count

-- why the bay is left open
abbrev pub cause_words : SaidCause → List ℕ
cause_words Budget = codes "budget"
cause_words Memory = codes "memory"
cause_words Time = codes "time"
cause_words Edited = codes "edited"

-- what is said of the fewest relocations, in words
abbrev pub said_words : Said → List ℕ
said_words (Optimal count) = codes "optimal " ++ decimal count
said_words (First count) = codes "optimal " ++ (decimal count ++ codes " first")
said_words NoPlan = codes "no plan"
said_words (Between lower upper why) = codes "between " ++ (decimal lower ++ (codes " and " ++ (upper_words upper ++ (codes ", " ++ cause_words why))))
said_words (Outside count) = codes "outside the rule " ++ (decimal count ++ codes ", edited")

-- the words of a bay's line
abbrev pub words_of_bay : YardBay → Said → List ℕ
words_of_bay bay said = bay_words bay ++ said_words said

-- the line of a bay
abbrev pub bay_line : YardBay → Said → List ℕ
bay_line bay said = bay_words bay ++ (said_words said ++ 10 ∷ [])

-- it settles the bay
abbrev pub is_settled : Said → Bool
is_settled (Optimal count) = true
is_settled (First count) = true
is_settled NoPlan = true
is_settled (Between lower upper why) = false
is_settled (Outside count) = false

-- the relocations of the moves that are said to be printed, if any are
abbrev pub count_said : Said → Option ℕ
count_said (Optimal count) = Some count
count_said (First count) = Some count
count_said NoPlan = None
count_said (Between lower upper why) = upper
count_said (Outside count) = Some count

-- what is said of a bay: its name, its fewest relocations, and the lines of its moves
pub record BaySaid : Type 0 where
  pub bay : YardBay
  pub said : Said
  pub lines : List ℕ

-- the line of a bay, and the lines of its moves
abbrev pub bay_text : BaySaid → List ℕ
bay_text b = bay_line b.bay b.said ++ b.lines

-- the last line: how many bays there are, and how many of them are decided
abbrev pub bays_line : ℕ → ℕ → List ℕ
bays_line bays decided = codes "bays " ++ (decimal bays ++ (codes " decided " ++ (decimal decided ++ 10 ∷ [])))

-- the report: the line of the three numbers, the lines of the bays, and the line that counts them
abbrev pub report_text : Numbers → List BaySaid → List ℕ
report_text n bays = counts_line n ++ (flat_map bay_text bays ++ bays_line (length bays) (count_by (λ b. is_settled b.said) bays))
