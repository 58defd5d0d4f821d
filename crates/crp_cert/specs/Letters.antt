-- The letters by which symbols are spelled.
use Rattle.std.specs.Prelude.{ℕ}
use Rattle.crp_row.specs.declared.kind.Kind.{Kind}
use Rattle.crp_row.specs.declared.kind.Kind.TheVariants as kind

-- B, L, X and G; the bracket with which a cut by reasons begins
abbrev pub letter : Kind → ℕ
letter kind.CutB = 66
letter kind.CutL = 76
letter (kind.CutR bound) = 91
letter (kind.Branch n) = 88
letter kind.Given = 71
