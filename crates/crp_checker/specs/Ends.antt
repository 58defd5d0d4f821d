-- What a line of symbols is found to be when it ends.
use Rattle.std.specs.Prelude.{ℕ, List}
use Rattle.crp_cert.specs.ScriptFaults.{AreSymbols, BeginsWithTree, GoesOnBehindTree}
use Rattle.crp_checker.specs.declared.line_end.LineEnd.{LineEnd}
use Rattle.crp_checker.specs.declared.line_end.LineEnd.TheVariants.{Unknown, Trailing, Unfinished, Whole}
use Rattle.crp_tree.specs.Spots.{Spot}
use Rattle.crp_cert.specs.declared.version.Version.{Version}
use Rattle.crp_checker.specs.Symbols.{IsOneWholeTree}

-- the bytes are the symbols of a part whose name leads to the top spot: a byte may not stand there, or else symbols follow the tree, or end before it does, or are those of a tree
abbrev pub IsEndOfSymbols : (List ℕ → ℕ) → Version → Spot → List ℕ → LineEnd → Type 0
IsEndOfSymbols need version top bytes Unknown = ¬ AreSymbols version bytes
IsEndOfSymbols need version top bytes Trailing = AreSymbols version bytes × GoesOnBehindTree top.place bytes
IsEndOfSymbols need version top bytes Unfinished = AreSymbols version bytes × ¬ BeginsWithTree top.place bytes
IsEndOfSymbols need version top bytes (Whole wrong given) = AreSymbols version bytes × IsOneWholeTree need top bytes wrong given
