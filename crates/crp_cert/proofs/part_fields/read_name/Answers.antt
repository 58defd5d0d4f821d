use Rattle.std.proofs.Common.{ℕ, List, length, sym, ◌∙◌, arith}
use Rattle.std.specs.Prelude.{codes}
use Rattle.std.proofs.lemmas.Bool.{eqb-true, eqb-false}
use Rattle.crp_cert.proofs.Numbers.{tag_takes}
use Rattle.crp_cert.proofs.Opening.{no_name, no_colon, no_end, name_is}
use Rattle.crp_cert.proofs.part_fields.read_name.Goals as goal

pub returns-in_default-clause-none : goal.returns-in_default-clause-none
returns-in_default-clause-none c name fits text = no_name c.args.problem.now c.args.bytes.now name c.in_default.ensures.problem c.in_default.ensures.value fits text

pub returns-in_default-after_tag-clause-none : goal.returns-in_default-after_tag-clause-none
returns-in_default-after_tag-clause-none c name fits text =
    no_colon c.args.problem.now c.args.bytes.now name c.in-Some.named.0 c.in-Some.named.1.place c.in-Some.rest.now c.in-Some.ensures.problem c.in-Some.ensures.value c.in_default-after_tag.ensures fits text

pub returns-then-not-is_empty-clause-none : goal.returns-then-not-is_empty-clause-none
returns-then-not-is_empty-clause-none c name fits text =
    let after : List ℕ = c.in-Some-after_tag.after.now in
    let more = eqb-false (length after) 0 (sym c.is_empty.ensures ∙ c.if-not-is_empty.true) in
    no_end c.args.problem.now c.args.bytes.now name c.in-Some.named.0 c.in-Some.named.1.place c.in-Some.rest.now after c.in-Some.ensures.problem c.in-Some.ensures.value c.in-Some-after_tag.ensures (omega arith) fits text

pub returns-clause-found : goal.returns-clause-found
returns-clause-found c =
    let after : List ℕ = c.in-Some-after_tag.after.now in
    let rest : List ℕ = c.in-Some.rest.now in
    name_is c.args.problem.now c.args.bytes.now c.in-Some.named.0 c.in-Some.named.1.place rest after c.in-Some.ensures.problem c.in-Some.ensures.value
    (tag_takes (codes ": ") rest after c.in-Some-after_tag.ensures) (eqb-true (length after) 0 (sym c.is_empty.ensures ∙ c.if-not-is_empty.false))
