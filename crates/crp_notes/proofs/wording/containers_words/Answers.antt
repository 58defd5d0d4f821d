use Rattle.std.proofs.Common.{◌≡◌, ◌<◌, ◌∙◌, length, take, arith, tests, append_assoc}
use Rattle.std.specs.Prelude.{nat_lt, codes}
use Rattle.crp_notes.specs.Wording.{listed}
use Rattle.crp_notes.proofs.Firsts.{said, some-containers}
use Rattle.crp_notes.proofs.wording.containers_words.Goals as goal

pub returns : goal.returns
returns c =
    let names = c.args.names.now in
    let some : 0 < length names = grind (arith, tests, c.if-is_empty.false, c.is_empty.ensures) in
    let words : c.deref.result.now ≡ listed (take 2 (said names)) (nat_lt 2 (length names)) = c.deref.ensures.value ∙ c.in_ok-names.ensures in
    rw (some-containers names some, c.in_ok-push.ensures.items, c.in_ok-extend_from_slice.ensures.items, c.in_ok-text.ensures.items, words) (append_assoc (codes " (") (listed (take 2 (said names)) (nat_lt 2 (length names))) (codes ")"))
