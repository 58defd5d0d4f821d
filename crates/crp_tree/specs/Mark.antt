-- What a node of a search tree is.
use Rattle.std.specs.Prelude.{ℕ, List}

-- a cut by the blocking bound, by the look-ahead bound, or by reasons, which are to show so much and have a text; a branch; or a subtree that is given to
-- a part of its own
pub data Mark : Type 0 where
  B : Mark
  L : Mark
  R : ℕ → List ℕ → Mark
  X : Mark
  G : Mark
