use Rattle.std.proofs.Common.{◌≡◌, ◌++◌, ℕ, List, length}
use Rattle.crp_tree.specs.Spots.{Spot}
use Rattle.crp_checker.specs.Kept.{need_by}
use Rattle.crp_checker.specs.Lines.{LineIs}
use Rattle.crp_checker.proofs.line.SymbolLine.feed.Given as goal

-- what came of the piece is read
abbrev pub invariant-loop-byte : goal.invariant-loop-byte
invariant-loop-byte l = (taken : List ℕ) × (l.piece ≡ taken ++ l.rest)
    × ((top : Spot) (before : List ℕ) → LineIs (need_by l.need) l.need.version top before l.fn.self → LineIs (need_by l.need) l.need.version top (before ++ taken) l.self)

abbrev pub decreases-loop-byte : goal.decreases-loop-byte
decreases-loop-byte l = length l.rest
