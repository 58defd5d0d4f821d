use Rattle.std.proofs.Common.{◌≡◌, ◌∙◌, ◌++◌, true, arith, tests, append_assoc}
use Rattle.std.specs.Prelude.{nat_lt, codes, decimal}
use Rattle.crp_notes.specs.Wording.{bay_name}
use Rattle.crp_notes.proofs.wording.which_words.Goals as goal

pub returns : goal.returns
returns c =
    let many : nat_lt 1 c.args.bays ≡ true = grind (arith, tests, c.if-bays-le1.false) in
    let digits : c.as_bytes.result.now ≡ decimal c.args.bays = c.as_bytes.ensures.value ∙ c.format.ensures.text in
    let name : c.deref.result.now ≡ bay_name c.args.first.now = c.deref.ensures.value ∙ c.in_ok-name.ensures in
    let before = decimal c.args.bays ++ codes " bays (" in
    rw (c.in_ok-extend_from_slice-4.ensures.items, c.in_ok-extend_from_slice-3.ensures.items, c.in_ok-extend_from_slice-2.ensures.items, c.in_ok-text-2.ensures.items, many, digits, name) (
    append_assoc before (bay_name c.args.first.now) (codes " is the first) are")
    ∙ append_assoc (decimal c.args.bays) (codes " bays (") (bay_name c.args.first.now ++ codes " is the first) are")
    )
