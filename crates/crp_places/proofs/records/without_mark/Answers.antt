use Rattle.std.proofs.Common.{◌≡◌, ◌∙◌, ◌∷◌, [], true, false, sym}
use Rattle.std.specs.List.{starts_with}
use Rattle.std.specs.Prelude.{nat_eq}
use Rattle.std.proofs.lemmas.List.{take_rest}
use Rattle.crp_places.proofs.RecordSteps.{strip-is}
use Rattle.crp_places.proofs.records.without_mark.Goals as goal

pub returns-then-starts_with-clause-stripped : goal.returns-then-starts_with-clause-stripped
returns-then-starts_with-clause-stripped c =
    let test : starts_with nat_eq c.args.text.now (239 ∷ 187 ∷ 191 ∷ []) ≡ true = sym c.starts_with.ensures.value ∙ c.if-starts_with.true in
    take_rest c.args.text.now 3 ∙ sym (rw test at (strip-is c.args.text.now))

pub returns-else-starts_with-clause-stripped : goal.returns-else-starts_with-clause-stripped
returns-else-starts_with-clause-stripped c =
    let test : starts_with nat_eq c.args.text.now (239 ∷ 187 ∷ 191 ∷ []) ≡ false = sym c.starts_with.ensures.value ∙ c.if-starts_with.false in
    sym (rw test at (strip-is c.args.text.now))
