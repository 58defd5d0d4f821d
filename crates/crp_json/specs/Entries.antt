-- The entries of what is printed: of a report its first line, of each bay its line with those of its moves, and its last line; of checks what each certificate
-- shows, and how many bays were audited; of bounds those of a bay.
use Rattle.std.specs.Prelude.{◌≡◌, ℕ, ◌≤◌, true, if◌then◌else◌, List, [], ◌∷◌, ◌++◌, length, flat_map, Option, Some, None, IfSome, codes, decimal, ⊤}
use Rattle.std.specs.List.{AllByRecursion}
use Rattle.crp_plan.specs.BayNames.{YardBay, IsYardBay}
use Rattle.crp_checker.specs.declared.verdict.Verdict.{Verdict}
use Rattle.crp_checker.specs.declared.verdict.Verdict.TheVariants as verdict
use Rattle.crp_said.specs.declared.moves.SaidMove.{SaidMove}
use Rattle.crp_said.specs.MoveLines.{move_words}
use Rattle.crp_said.specs.Said.{bay_words, counts_line, bay_line, bays_line}
use Rattle.crp_said.specs.Spelled.{most, AreSmall, IsSmall, CanBeStated, ended}
use Rattle.crp_json.specs.declared.entry.BayBounds.{BayBounds}
use Rattle.crp_json.specs.declared.entry.ChainRank.{ChainRank}
use Rattle.crp_json.specs.declared.entry.Chains.{Chains}
use Rattle.crp_json.specs.declared.entry.Printed.{Printed}
use Rattle.crp_json.specs.declared.entry.Printed.TheVariants as printed
use Rattle.crp_json.specs.declared.entry.Entry.{Entry}
use Rattle.crp_json.specs.declared.entry.Entry.TheVariants.{First, Bay, Last, Certified, Audited, Bounds}

-- the lines of these moves
abbrev pub moves_text : List SaidMove → List ℕ
moves_text moves = flat_map (λ m. ended (move_words m)) moves

-- the relocations of the plan of a certificate, if it has one
abbrev pub plan_words : Option ℕ → List ℕ
plan_words None = []
plan_words (Some count) = codes ", plan of " ++ decimal count

-- what a certificate shows, in words
abbrev pub shown_words : Verdict → List ℕ
shown_words (verdict.Optimal count) = codes "optimal " ++ decimal count
shown_words (verdict.First count) = codes "optimal " ++ (decimal count ++ codes " first")
shown_words verdict.NoPlan = codes "no plan"
shown_words (verdict.Bounds lower upper) = codes "at least " ++ (decimal lower ++ plan_words upper)

-- the words of its line
abbrev pub words_of_shown : YardBay → Verdict → List ℕ
words_of_shown bay shown = bay_words bay ++ shown_words shown

-- how many bays were audited, in words
abbrev pub audited_words : ℕ → List ℕ
audited_words bays = codes "audited " ++ decimal bays

-- the name of a bay, in words
abbrev pub title_words : YardBay → List ℕ
title_words bay = codes "bay " ++ (bay.block ++ 32 ∷ decimal bay.bay)

abbrev pub blocking_words : ℕ → List ℕ
blocking_words bound = codes "blocking " ++ decimal bound

abbrev pub look_ahead_words : ℕ → List ℕ
look_ahead_words bound = codes "look-ahead " ++ decimal bound

-- a rank behind others: of the next chain, or of the same one
abbrev pub rank_words : ChainRank → List ℕ
rank_words r = (if r.begins then codes " | " else codes ".") ++ decimal r.rank

-- ranks behind the bound, if there are some
abbrev pub ranks_words : List ChainRank → List ℕ
ranks_words [] = []
ranks_words (r ∷ ranks) = codes ": " ++ (decimal r.rank ++ flat_map rank_words ranks)

abbrev pub chains_words : Chains → List ℕ
chains_words c = codes "chains " ++ (decimal c.bound ++ ranks_words c.ranks.items)

-- the line of chains, if there is one
abbrev pub chains_line : Option Chains → List ℕ
chains_line None = []
chains_line (Some c) = ended (chains_words c)

-- the lines behind the name of the bay
abbrev pub bound_lines : BayBounds → List ℕ
bound_lines b = ended (blocking_words b.blocking) ++ (ended (look_ahead_words b.look_ahead) ++ chains_line b.chains)

-- the lines of an entry
abbrev pub entry_text : Entry → List ℕ
entry_text (First numbers) = counts_line numbers
entry_text (Bay b) = bay_line b.bay b.said ++ moves_text b.moves.items
entry_text (Last bays decided) = bays_line bays decided
entry_text (Certified b) = ended (words_of_shown b.bay b.verdict)
entry_text (Audited bays) = ended (audited_words bays)
entry_text (Bounds b) = ended (title_words b.bay) ++ bound_lines b

-- numbers that can be read
abbrev pub IsSmallVerdict : Verdict → Type 0
IsSmallVerdict (verdict.Optimal count) = count ≤ most
IsSmallVerdict (verdict.First count) = count ≤ most
IsSmallVerdict verdict.NoPlan = ⊤
IsSmallVerdict (verdict.Bounds lower upper) = (lower ≤ most) × IfSome upper (λ count. count ≤ most)

abbrev pub IsSmallRank : ChainRank → Type 0
IsSmallRank r = r.rank ≤ most

-- a chain begins with the first of them
abbrev pub AreRanks : List ChainRank → Type 0
AreRanks [] = ⊤
AreRanks (r ∷ ranks) = (r.begins ≡ true) × IsSmallRank r × AllByRecursion IsSmallRank ranks

abbrev pub AreChains : Chains → Type 0
AreChains c = (c.bound ≤ most) × AreRanks c.ranks.items

abbrev pub IsBounds : BayBounds → Type 0
IsBounds b = IsYardBay b.bay × (b.blocking ≤ most) × (b.look_ahead ≤ most) × IfSome b.chains AreChains

-- lines can state it
abbrev pub IsEntry : Entry → Type 0
IsEntry (First numbers) = AreSmall numbers
IsEntry (Bay b) = IsYardBay b.bay × IsSmall b.said × AllByRecursion CanBeStated b.moves.items
IsEntry (Last bays decided) = (bays ≤ most) × (decided ≤ most)
IsEntry (Certified b) = IsYardBay b.bay × IsSmallVerdict b.verdict
IsEntry (Audited bays) = bays ≤ most
IsEntry (Bounds b) = IsBounds b

-- where it is printed
abbrev pub printed_in : Entry → Printed
printed_in (First numbers) = printed.Report
printed_in (Bay b) = printed.Report
printed_in (Last bays decided) = printed.Report
printed_in (Certified b) = printed.Checks
printed_in (Audited bays) = printed.Checks
printed_in (Bounds b) = printed.Bounds

abbrev pub IsEntryOf : Printed → Entry → Type 0
IsEntryOf p e = (printed_in e ≡ p) × IsEntry e

-- how many entries a piece may have
abbrev pub IsWhole : Printed → ℕ → Type 0
IsWhole printed.Report n = n ≡ 1
IsWhole printed.Checks n = ⊤
IsWhole printed.Bounds n = n ≡ 1

-- the entries of a piece
abbrev pub IsPiece : Printed → List Entry → Type 0
IsPiece p entries = AllByRecursion (IsEntryOf p) entries × IsWhole p (length entries)

-- what a line can be, by its bytes without its LF: what a certificate shows
abbrev pub IsShownLine : List ℕ → Type 0
IsShownLine line = (bay : YardBay) × (shown : Verdict) × IsYardBay bay × IsSmallVerdict shown × (line ≡ words_of_shown bay shown)

-- what one shows that gives bounds
abbrev pub IsBoundsLine : List ℕ → Type 0
IsBoundsLine line = (bay : YardBay) × (lower : ℕ) × (upper : Option ℕ) × IsYardBay bay × IsSmallVerdict (verdict.Bounds lower upper)
    × (line ≡ words_of_shown bay (verdict.Bounds lower upper))

-- the name of a bay; a number behind these words; or chains
abbrev pub IsTitleLine : List ℕ → Type 0
IsTitleLine line = (bay : YardBay) × IsYardBay bay × (line ≡ title_words bay)

abbrev pub IsNumberLine : List ℕ → List ℕ → Type 0
IsNumberLine words line = (n : ℕ) × (n ≤ most) × (line ≡ words ++ decimal n)

-- ranks behind others, or behind the bound
abbrev pub AreMoreRanks : List ℕ → Type 0
AreMoreRanks bytes = (ranks : List ChainRank) × AllByRecursion IsSmallRank ranks × (bytes ≡ flat_map rank_words ranks)

abbrev pub AreAllRanks : List ℕ → Type 0
AreAllRanks bytes = (ranks : List ChainRank) × AreRanks ranks × (bytes ≡ ranks_words ranks)
