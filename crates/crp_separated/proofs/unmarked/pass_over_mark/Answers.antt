use Rattle.std.proofs.Common.{◌≡◌, ◌∙◌, get_or, true, false, sym}
use Rattle.csv.specs.Reading.{is_bom}
use Rattle.crp_separated.proofs.Marks.{mark_goes, others_stay}
use Rattle.crp_separated.proofs.unmarked.pass_over_mark.Goals as goal

pub returns-then-is_mark : goal.returns-then-is_mark
returns-then-is_mark c = λ rest.
    let l = c.args.front.now.items in
    let test : is_bom (get_or l 0 0) (get_or l 1 0) (get_or l 2 0) ≡ true = rw c.as_slice.ensures.value at (sym c.is_mark.ensures ∙ c.if-is_mark.true) in
    rw c.clear.ensures (mark_goes l rest c.requires test)

pub returns-else-is_mark : goal.returns-else-is_mark
returns-else-is_mark c = λ rest.
    let l = c.args.front.now.items in
    let test : is_bom (get_or l 0 0) (get_or l 1 0) (get_or l 2 0) ≡ false = rw c.as_slice.ensures.value at (sym c.is_mark.ensures ∙ c.if-is_mark.false) in
    others_stay l rest c.requires test
