use Rattle.std.proofs.Common.{◌≡◌, ℕ, List, ◌++◌, IsTrue, ◌↔◌, Bool, false, refl, sym, ap, ◌∙◌}
use Rattle.crp_cert.specs.Script.{end_line}
use Rattle.crp_checker.specs.Openings.{part_word}
use Rattle.crp_checker.proofs.Growing.{apart_from}
use Rattle.crp_checker.proofs.opening.last_opening.Goals as goal

-- a test that failed
not_so : {P : Type 0} (b : Bool) → IsTrue b ↔ P → b ≡ false → ¬ P
not_so b tells no' p = let yes' = tells.1 p in cc

pub returns-then-begins_with : goal.returns-then-begins_with
returns-then-begins_with c =
    let begun = c.begins_with.ensures.0 c.if-begins_with.true in (begun.0, begun.1 ∙ ap (λ l. l ++ begun.0) (c.as_slice-last.ensures.value ∙ c.end_line-last_line.ensures))

pub returns : goal.returns
returns c =
    let begun : List ℕ = c.args.begun.now in
    let last : List ℕ = c.as_slice-last.result.now in
    let is : last ≡ end_line c.args.count = c.as_slice-last.ensures.value ∙ c.end_line-last_line.ensures in
    let longer = not_so c.begins_with.result c.begins_with.ensures c.if-begins_with.false in
    let shorter = not_so c.begins_with-2.result c.begins_with-2.ensures c.if-begins_with-2.false in
    let no_word = not_so c.begins_with-3.result c.begins_with-3.ensures c.if-begins_with-3.false in (
      refl,
      λ more. (
        λ stands. apart_from begun part_word c.requires no_word more stands,
        λ stands. apart_from begun last longer shorter more (stands.0, stands.1 ∙ ap (λ l. l ++ stands.0) (sym is)),
      ),
    )
