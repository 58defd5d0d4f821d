-- What `replay` writes: the bay of a head, and the moves of its plan.
use Rattle.std.specs.Prelude.{◌≡◌, ℕ, List, [], ◌∷◌, ◌++◌, length, Some, MatchOption, codes, decimal}
use Rattle.crp_plan.specs.declared.moves.Move.{Move}
use Rattle.crp_plan.specs.Rows.{total}
use Rattle.crp_plan.specs.Bay.{Problem, start, IsPlan, path_of, relocations}
use Rattle.crp_plan.specs.Faults.{IsPlanFault}
use Rattle.crp_cert.specs.declared.head.Head.{Head}
use Rattle.crp_cert.specs.Text.{bay_line, IsHeadOf}
use Rattle.crp_cert.specs.Faults.{IsFirstFault}
use Rattle.crp_jobs.specs.declared.outcome.ToolFault.{ToolFault}
use Rattle.crp_jobs.specs.declared.outcome.ToolFault.TheVariants as fault
use Rattle.crp_said.specs.MoveLines.{rank_names, AreMoveLines}

-- how many moves and relocations a plan has
abbrev pub count_line : List Move → List ℕ
count_line moves = codes "moves " ++ (decimal (length moves) ++ (codes " relocations " ++ (decimal (relocations moves) ++ 10 ∷ [])))

-- the complete plan with these rows as its path is counted, and then its moves are stated, with ranks as names
abbrev pub IsReplayText : Problem → List ℕ → List ℕ → Type 0
IsReplayText problem rows text =
    (moves : List Move) × (lines : List ℕ) × IsPlan problem moves × (path_of moves ≡ rows)
    × AreMoveLines (rank_names (total problem.stacks)) (start problem) moves lines × (text ≡ count_line moves ++ lines)

-- what is stated of a head: its bay, and its plan or that there is none
abbrev pub IsHeadReport : Head → List ℕ → Type 0
IsHeadReport head report =
    (text : List ℕ) × (report ≡ bay_line head.bay ++ text) × MatchOption head.plan (text ≡ codes "no plan" ++ 10 ∷ []) (λ rows. IsReplayText head.problem rows text)

-- the report of the head that the bytes begin with
abbrev pub IsReplay : List ℕ → List ℕ → Type 0
IsReplay bytes report = (head : Head) × IsHeadOf bytes head × IsHeadReport head report

-- why nothing is stated of a head: the rows of its plan are no plan's, or memory is wanted
abbrev pub IsNoReport : Head → ToolFault → Type 0
IsNoReport head (fault.Plan f) = (rows : List ℕ) × (head.plan ≡ Some rows) × IsPlanFault head.problem rows f
IsNoReport head fault.Memory = Unit {0}
IsNoReport head f = ⊥

-- the bytes begin with no head, or the plan of the head is none
abbrev pub IsNoReplay : List ℕ → ToolFault → Type 0
IsNoReplay bytes (fault.Cert f) = IsFirstFault bytes f
IsNoReplay bytes (fault.Plan f) = (head : Head) × IsHeadOf bytes head × IsNoReport head (fault.Plan f)
IsNoReplay bytes f = ⊥
