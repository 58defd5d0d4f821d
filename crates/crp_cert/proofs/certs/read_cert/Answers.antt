use Rattle.std.proofs.Common.{◌≡◌, ℕ, ◌+◌, List, ◌∷◌, ◌++◌, length, arith, inl, inr, refl, sym, subst, ap, ◌∙◌}
use Rattle.std.specs.List.{flat_map}
use Rattle.std.proofs.lemmas.Bool.{eqb-false, eqb-true}
use Rattle.crp_tree.specs.Claims.{Part}
use Rattle.crp_cert.specs.declared.head.Head.{Head}
use Rattle.crp_cert.specs.Text.{head_text}
use Rattle.crp_cert.specs.Script.{part_line, end_line, IsScriptOf}
use Rattle.crp_cert.proofs.NameOrder.{few_parts}
use Rattle.crp_cert.proofs.PartFaults.{tells_parts, no_last, no_further, more_behind, none_behind}
use Rattle.crp_cert.proofs.certs.read_cert.Goals as goal

pub overflow_cast-last : goal.overflow_cast-last
overflow_cast-last c =
    let are = c.in_ok-parts.ensures.parts in
    omega (arith, few_parts c.in_ok-head.head.version c.in_ok-head.head.problem c.in_ok-parts.parts.items c.first_part-first.ensures.problem are.each_part are.rising)

pub overflow_add-last : goal.overflow_add-last
overflow_add-last c =
    let are = c.in_ok-parts.ensures.parts in
    let most = c.first_part-first.ensures.few in
    omega (arith, few_parts c.in_ok-head.head.version c.in_ok-head.head.problem c.in_ok-parts.parts.items c.first_part-first.ensures.problem are.each_part are.rising)

pub overflow_add-result : goal.overflow_add-result
overflow_add-result c =
    let are = c.in_ok-parts.ensures.parts in
    let most = c.first_part-first.ensures.few in
    omega (arith, few_parts c.in_ok-head.head.version c.in_ok-head.head.problem c.in_ok-parts.parts.items c.first_part-first.ensures.problem are.each_part are.rising)

pub returns-in_default-clause-refused : goal.returns-in_default-clause-refused
returns-in_default-clause-refused c =
    let head : Head = c.in_ok-head.head in
    let parts : List Part = c.in_ok-parts.parts.items in
    let rest : List ℕ = c.in_ok-parts.rest.now in
    let count : c.len-2.result ≡ length parts = omega arith in
    inr (inr (
      head,
      parts,
      _,
      rest,
      tells_parts c.args.bytes.now head c.in_ok-head.rest.now parts _ rest c.in_ok-head.ensures.head c.in_ok-head.ensures.text c.in_ok-parts.ensures.parts (omega arith),
      inl (refl, no_further rest c.in_ok-parts.ensures.all, λ after e. no_last c.len-2.result rest c.in_default.ensures after (e ∙ ap (λ n. end_line n ++ after) (sym count))),
    ))

pub returns-then-not-is_empty-clause-refused : goal.returns-then-not-is_empty-clause-refused
returns-then-not-is_empty-clause-refused c =
    let head : Head = c.in_ok-head.head in
    let parts : List Part = c.in_ok-parts.parts.items in
    let rest : List ℕ = c.in_ok-parts.rest.now in
    let count : c.len-2.result ≡ length parts = omega arith in
    let ne = eqb-false (length c.in-Some.rest.now) 0 (sym c.is_empty.ensures ∙ c.if-not-is_empty.true) in
    let more = more_behind c.len-2.result rest c.in-Some.rest.now c.in-Some.ensures (omega arith) in
    inr (inr (
      head,
      parts,
      _,
      rest,
      tells_parts c.args.bytes.now head c.in_ok-head.rest.now parts (c.first_part-first.result + c.len.result) rest c.in_ok-head.ensures.head c.in_ok-head.ensures.text c.in_ok-parts.ensures.parts (omega arith),
      inr (omega arith, (more.0, more.1, more.2 ∙ ap (λ n. end_line n ++ more.0 ∷ more.1) count)),
    ))

pub returns-clause-found : goal.returns-clause-found
returns-clause-found c =
    let head : Head = c.in_ok-head.head in
    let parts : List Part = c.in_ok-parts.parts.items in
    let rest : List ℕ = c.in_ok-parts.rest.now in
    let are = c.in_ok-parts.ensures.parts in
    let count : c.len-2.result ≡ length parts = omega arith in
    let last = none_behind c.len-2.result rest c.in-Some.rest.now c.in-Some.ensures (eqb-true (length c.in-Some.rest.now) 0 (sym c.is_empty.ensures ∙ c.if-not-is_empty.false)) in
    subst (λ (l : List Part). IsScriptOf c.args.bytes.now (record { head = head; parts = l })) (sym c.of.ensures) (
      record { is_head = c.in_ok-head.ensures.head; each_part = are.each_part; rising = are.rising },
      c.in_ok-head.ensures.text ∙ ap (λ l. head_text head ++ l) (are.text ∙ ap (λ l. flat_map part_line parts ++ l) (last ∙ ap end_line count)),
    )
