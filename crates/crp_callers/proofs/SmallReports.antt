-- The report of the small bay is one.
use Rattle.std.proofs.Common.{◌≡◌, ◌≢◌, ◌∙◌, ℕ, [], ◌∷◌, ◌++◌, List, Option, Some, None, MatchOption, true, refl, sym, ap, arith, inr}
use Rattle.std.specs.Prelude.{codes}
use Rattle.std.specs.Fmt.{digits}
use Rattle.crp_said.specs.Spelled.{IsMoveBody, SpellsReport, IsMisspelled, CanBeStated}
use Rattle.crp_said.specs.MoveLines.{move_words}
use Rattle.crp_said.specs.declared.moves.SaidMove.{SaidMove}
use Rattle.std.specs.List.{AllByRecursion}
use Rattle.crp_callers.specs.SmallBay.{lines}
use Rattle.crp_callers.specs.SmallReport.{move_lines, report_lines, small_report, empty_report, empty_lines, relocation, relocation_line}
use Rattle.crp_callers.proofs.SmallBays.{first_bay_is}
use Rattle.crp_callers.proofs.Plain.{is_line, one_line}

move_body : (first : ℕ) (rest : List ℕ) → first ≢ 98 → is_line (first ∷ rest) ≡ true → IsMoveBody (first ∷ rest)
move_body first rest other is = record { first = first; rest = rest; is = refl; other = other; one_line = one_line (first ∷ rest) is }

pub small_report_is : SpellsReport (lines report_lines) small_report
unfolding digits
small_report_is = (
  record {
    numbers = record { orders = omega arith; vacant = omega arith; absent = omega arith };
    bays = (record { named = first_bay_is; small = omega arith; lines = record { bodies = move_lines; each = moves; is = refl } }, tt);
    count = omega arith;
    settled = omega arith;
  },
  refl,
)
  where
    moves : AllByRecursion IsMoveBody move_lines
    moves = (
      move_body 115 (codes "hift 1.2 2.2 MSCU3") (omega arith) refl,
      (
        move_body 116 (codes "ake 1.1 MSCU1") (omega arith) refl,
        (
          move_body 115 (codes "hift 2.2 1.1 MSCU3") (omega arith) refl,
          (move_body 116 (codes "ake 2.1 MSCU2") (omega arith) refl, tt),
        ),
      ),
    )

-- behind the lines of a report of no bay stands an empty line, the third
pub more_misspelled : IsMisspelled (lines empty_lines ++ 10 ∷ []) 3
unfolding digits
more_misspelled = inr (inr (record {
  report = empty_report;
  more = 10 ∷ [];
  is_report = record {
    numbers = record { orders = omega arith; vacant = omega arith; absent = omega arith };
    bays = tt;
    count = omega arith;
    settled = omega arith;
  };
  is = refl;
  some = λ e. cc;
  line_is = refl;
}))

relocation_can : CanBeStated relocation
relocation_can = ((omega arith, omega arith), (omega arith, omega arith), refl)

relocation_is : relocation_line ≡ move_words relocation
unfolding digits
relocation_is = refl

-- what is read of the relocation's line, where a line states one move at most
pub one_stated : ((m n : SaidMove) → CanBeStated m → CanBeStated n → move_words m ≡ move_words n → m ≡ n) → (stated : Option SaidMove)
    → MatchOption stated ((m : SaidMove) → CanBeStated m → relocation_line ≢ move_words m) (λ m. CanBeStated m × (relocation_line ≡ move_words m)) → stated ≡ Some relocation
one_stated law None none = absurd (none relocation relocation_can relocation_is)
one_stated law (Some m) is = ap Some (law m relocation is.0 relocation_can (sym is.1 ∙ relocation_is))
