-- What a whole part line is found to be.
use Rattle.std.specs.Prelude.{◌≡◌, ℕ, List, ◌++◌, Option}
use Rattle.crp_plan.specs.Bay.{Problem}
use Rattle.crp_tree.specs.Claims.{Part, nodes_in, given_by}
use Rattle.crp_cert.specs.declared.version.Version.{Version}
use Rattle.crp_cert.specs.declared.fault.CertFault.TheVariants as faults
use Rattle.crp_cert.specs.Script.{part_line, IsPartLine}
use Rattle.crp_cert.specs.ScriptFaults.{ComesAfter, IsLineFault}
use Rattle.crp_checker.specs.declared.wrong.Wrong.{Wrong}
use Rattle.crp_checker.specs.declared.line_end.LineEnd.{LineEnd}
use Rattle.crp_checker.specs.declared.line_end.LineEnd.TheVariants.{Unknown, Trailing, Unfinished, Whole}
use Rattle.crp_checker.specs.Gathered.{Gathered, gathered}
use Rattle.crp_checker.specs.Symbols.{IsFirstOf}

-- the bytes begin with the line of one part more, which has this name, behind which this follows: its first wrong node is this one, if it has one, and it gives these names
pub record IsNextPart (need : List ℕ → ℕ) (version : Version) (p : Problem) (parts : List Part) (name bytes after : List ℕ) (wrong : Option Wrong) (given : Gathered) : Type 0 where
  pub part : Part
  pub named : part.name ≡ name
  pub readable : IsPartLine version p part
  pub in_order : ComesAfter parts part.name
  pub text : bytes ≡ part_line part ++ after
  pub wrong_is : IsFirstOf need (nodes_in p part) wrong
  pub given_are : given ≡ gathered (given_by p part)

-- what is wrong with the part line of this name that the bytes begin with, which has this number and stands behind these parts; or which part stands there
abbrev pub IsPartEnd : (List ℕ → ℕ) → Version → Problem → List Part → ℕ → List ℕ → List ℕ → List ℕ → LineEnd → Type 0
IsPartEnd need version p parts line name bytes after Unknown = IsLineFault version p parts line bytes (faults.Symbol line)
IsPartEnd need version p parts line name bytes after Trailing = IsLineFault version p parts line bytes (faults.Trailing line)
IsPartEnd need version p parts line name bytes after Unfinished = IsLineFault version p parts line bytes (faults.Unfinished line)
IsPartEnd need version p parts line name bytes after (Whole wrong given) = IsNextPart need version p parts name bytes after wrong given
