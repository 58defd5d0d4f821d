-- What `bound` writes: the bay of a head, and lower bounds of its problem before the first relocation.
use Rattle.std.specs.Prelude.{◌≡◌, ℕ, Bool, true, false, List, [], ◌∷◌, ◌++◌, codes, decimal}
use Rattle.std.specs.List.{flat_map}
use Rattle.crp_plan.specs.Bay.{Position, IsAt}
use Rattle.crp_bounds.specs.Bounds.{blocking, look_ahead}
use Rattle.crp_thinning.specs.Symbols.{chain_text}
use Rattle.crp_thinning.specs.Found.{ShowsBound}
use Rattle.crp_cert.specs.declared.head.Head.{Head}
use Rattle.crp_cert.specs.Text.{bay_line, IsHeadOf}
use Rattle.crp_cert.specs.Faults.{IsFirstFault}
use Rattle.crp_jobs.specs.declared.outcome.ToolFault.{ToolFault}
use Rattle.crp_jobs.specs.declared.outcome.ToolFault.TheVariants as fault

-- the lines of the bounds of a position
abbrev pub bound_lines : Position → List ℕ
bound_lines s = codes "blocking " ++ (decimal (blocking s) ++ (10 ∷ (codes "look-ahead " ++ (decimal (look_ahead s) ++ 10 ∷ []))))

-- the ranks of each chain, behind a colon, and the chains with ` | ` between them; nothing where there is none
abbrev pub chains_text : List (List ℕ) → List ℕ
chains_text [] = []
chains_text (chain ∷ chains) = codes ": " ++ (chain_text chain ++ flat_map (λ other. codes " | " ++ chain_text other) chains)

-- the line of chains of a position: their ranks, behind the number that they show as a family
abbrev pub IsChainsLine : Position → List ℕ → Type 0
IsChainsLine s line = (chains : List (List ℕ)) × (bound : ℕ) × ShowsBound s chains bound
    × (line ≡ codes "chains " ++ (decimal bound ++ (chains_text chains ++ 10 ∷ [])))

-- the bay of a head, and the bounds of the position at the empty path of its problem; where chains are asked for, their line too
abbrev pub IsBoundReport : Bool → Head → List ℕ → Type 0
IsBoundReport false head report = (s : Position) × IsAt head.problem [] s × (report ≡ bay_line head.bay ++ bound_lines s)
IsBoundReport true head report = (s : Position) × IsAt head.problem [] s
    × ((line : List ℕ) × IsChainsLine s line × (report ≡ bay_line head.bay ++ (bound_lines s ++ line)))

-- the report of the head that the bytes begin with
abbrev pub IsBound : Bool → List ℕ → List ℕ → Type 0
IsBound chains bytes report = (head : Head) × IsHeadOf bytes head × IsBoundReport chains head report

-- the bytes begin with no head
abbrev pub IsNoBound : List ℕ → ToolFault → Type 0
IsNoBound bytes (fault.Cert f) = IsFirstFault bytes f
IsNoBound bytes f = ⊥
