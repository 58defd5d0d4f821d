-- What the commands write of lists of bytes.
use Rattle.std.specs.Prelude.{◌≡◌, ◌≤◌, ℕ, List, [], ◌∷◌, ◌++◌, Option, Some, None, codes, decimal}
use Rattle.crp_plan.specs.declared.moves.Move.{Move}
use Rattle.crp_plan.specs.Bay.{Problem, IsPlan, relocations}
use Rattle.crp_sizes.specs.Sizes.{YardSizes}
use Rattle.crp_sizes.specs.Records.{IsSizesListOf}
use Rattle.crp_yard.specs.Inventory.{Inventory}
use Rattle.crp_yard.specs.Reading.{IsTextOf, IsYardListOf}
use Rattle.crp_files.specs.Known.{KnownFiles}
use Rattle.crp_movins.specs.LoadOrders.{LoadOrders}
use Rattle.crp_order.specs.OfBays.{IsSequenceOf}
use Rattle.crp_said.specs.declared.numbers.Numbers.{Numbers}
use Rattle.crp_follow.specs.Behind.{IsListBehind}
use Rattle.crp_follow.specs.Parts.{NamedPart}
use Rattle.crp_follow.specs.Unstated.{bays_of_part, first_unstated}
use Rattle.crp_follow.specs.Followed.{BayFollowed, IsFollowed}
use Rattle.crp_loading.specs.Loading.{load_text}
use Rattle.crp_page.specs.Page.{page_text}
use Rattle.crp_page.specs.declared.ordered.OrderNumbers.TheVariants.{Counted}
use Rattle.crp_report.specs.Chosen.{InputChosen}
use Rattle.crp_separated.specs.Inputs.{comma_list_of}
use Rattle.crp_report.specs.Runs.{AreOrders, numbers_of}
use Rattle.crp_audit.specs.Headline.{Handed, handed}
use Rattle.crp_jobs.specs.declared.job.FileCommand.{FileCommand}
use Rattle.crp_jobs.specs.declared.job.FileCommand.TheVariants.{Replay, Bound, Check, Prove, Rewrite}
use Rattle.crp_follow.specs.Rewritten.{IsRewritten}
use Rattle.crp_commands.specs.Replay.{IsReplay}
use Rattle.crp_commands.specs.Bound.{IsBound, chains_text}
use Rattle.crp_commands.specs.Check.{IsCheck}
use Rattle.crp_commands.specs.Follow.{made_for, order_for}
use Rattle.crp_commands.specs.Prove.{IsSomeProof}

-- the text is the command's report of the bytes: the moves of their plan, the bounds of their problem, what they show, a certificate of their problem, or
-- the report that they are with lines that count its moves
abbrev pub IsReportOf : FileCommand → List ℕ → List ℕ → Type 0
IsReportOf Replay bytes text = IsReplay bytes text
IsReportOf (Bound chains json) bytes text = IsBound chains bytes text
IsReportOf (Check any_size workers json) bytes text = IsCheck bytes text
IsReportOf (Prove search) bytes text = IsSomeProof search bytes text
IsReportOf Rewrite bytes text = IsRewritten bytes text

-- the yard is that of the list, where its bays have the chosen sizes, or where a list of sizes is named those that it has, with this byte between its fields, as far
-- as the bytes of its file are known
abbrev pub IsSizedList : KnownFiles → ℕ → Option (List ℕ) → YardSizes → List ℕ → Inventory → Type 0
IsSizedList known separator None chosen list yard = IsYardListOf chosen list yard
IsSizedList known separator (Some name) chosen list yard =
    (text : List ℕ) × (sizes : YardSizes) × IsTextOf (comma_list_of separator (known.given name)) text × IsSizesListOf chosen.common text sizes × IsYardListOf sizes list yard

-- the report ends with a line of chains, and no plan has fewer relocations than the number in it
pub record EndsWithBound (p : Problem) (report : List ℕ) : Type 0 where
  pub before : List ℕ
  pub bound : ℕ
  pub chains : List (List ℕ)
  pub is : report ≡ before ++ (codes "chains " ++ (decimal bound ++ (chains_text chains ++ 10 ∷ [])))
  pub below : (moves : List Move) → IsPlan p moves → bound ≤ relocations moves

-- a yard list and a message are accepted, and this is what they say
pub record AreInput (chosen : InputChosen) (list message : List ℕ) (yard : Inventory) (orders : LoadOrders) (sequence : List (List ℕ)) : Type 0 where
  pub listed : IsYardListOf chosen.sizes list yard
  pub ordered : AreOrders chosen.loading message orders
  pub in_sequence : IsSequenceOf chosen.mode chosen.bays yard orders.list sequence

-- this holds of a report and certificates, as they are handed in with what a yard list and a message say
abbrev pub HoldsOfTexts : InputChosen → List ℕ → List ℕ → List ℕ → List ℕ → (Handed → Type 0) → Type 0
HoldsOfTexts chosen list message report certificates P = (yard : Inventory) × (orders : LoadOrders) × (sequence : List (List ℕ))
    × AreInput chosen list message yard orders sequence × P (handed yard orders sequence report certificates)

-- the whole report is followed and has what is named, and these are the page of that part, the list of the yard behind its moves up to so many containers of
-- the ship, or behind all, and its table in the order in which the ship is loaded
pub record IsWhole (part : NamedPart) (yard : Inventory) (orders : LoadOrders) (sequence : List (List ℕ)) (loaded : Option ℕ) (report page left table : List ℕ) : Type 0 where
  pub numbers : Numbers
  pub bays : List BayFollowed
  pub follows : IsFollowed yard report numbers bays
  pub stated : first_unstated part bays ≡ None
  pub page_is : page ≡ page_text yard (Counted (numbers_of yard orders sequence)) (order_for (Some (orders, sequence))) (bays_of_part part bays)
  pub left_is : IsListBehind yard (made_for (Some (orders, sequence)) loaded (bays_of_part part bays)) left
  pub table_is : table ≡ load_text sequence orders.list (bays_of_part part bays)

-- the same over what a yard list and a message say
abbrev pub IsFollowedWhole : InputChosen → NamedPart → Option ℕ → List ℕ → List ℕ → List ℕ → List ℕ → List ℕ → List ℕ → Type 0
IsFollowedWhole chosen part loaded list message report page left table = (yard : Inventory) × (orders : LoadOrders) × (sequence : List (List ℕ))
    × AreInput chosen list message yard orders sequence × IsWhole part yard orders sequence loaded report page left table
