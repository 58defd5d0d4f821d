-- Places of a yard.
use Rattle.std.specs.Prelude.{ℕ, Bool, ◌&&◌, ◌==◌}
use Rattle.crp_plan.specs.BayNames.{YardBay, same_bay}

-- a bay, and a row and a tier in it, from 1; tier 1 is the lowest
pub record YardPlace : Type 0 where
  pub bay : YardBay
  pub row : ℕ
  pub tier : ℕ

-- in one bay, one row and one tier
abbrev pub same_place : YardPlace → YardPlace → Bool
same_place p q = same_bay p.bay q.bay && ((p.row == q.row) && (p.tier == q.tier))
