-- Symbols of search trees.
use Rattle.std.specs.Prelude.{ℕ, List}

-- a search was cut by the blocking bound, by the look-ahead bound, or by reasons, which show so much and have a text; or it branched, and so many
-- trees come behind it; or the subtree was given to a part of its own
pub data Symbol : Type 0 where
  CutB : Symbol
  CutL : Symbol
  CutR : ℕ → List ℕ → Symbol
  Branch : ℕ → Symbol
  Given : Symbol
