use Rattle.std.proofs.Common.{◌+◌, List, ◌++◌, length, arith, inl, inr, ⊎_elim, sym, subst, ◌∙◌}
use Rattle.std.specs.Prelude.{codes}
use Rattle.std.proofs.lemmas.Result.{err_from_is_err_and}
use Rattle.crp_plan.specs.Bay.{Problem}
use Rattle.crp_tree.specs.Claims.{Part}
use Rattle.crp_cert.specs.ScriptFaults.{ComesAfter}
use Rattle.crp_cert.proofs.Numbers.{tag_takes}
use Rattle.crp_cert.proofs.NameOrder.{few_parts}
use Rattle.crp_cert.proofs.PartFaults.{parts_push, same_line}
use Rattle.crp_cert.proofs.certs.all_parts.Goals as goal

pub overflow_cast-line : goal.overflow_cast-line
overflow_cast-line c =
    let inv = c.loop-after.invariant in
    omega (arith, few_parts c.args.version c.args.problem.now c.loop-after.parts.items c.requires.problem inv.each_part inv.rising)

pub overflow_add-line : goal.overflow_add-line
overflow_add-line c =
    let inv = c.loop-after.invariant in
    omega (arith, few_parts c.args.version c.args.problem.now c.loop-after.parts.items c.requires.problem inv.each_part inv.rising)

pub returns-in_err-part-clause-refused : goal.returns-in_err-part-clause-refused
returns-in_err-part-clause-refused c =
    let p = err_from_is_err_and c.from_residual.result c.from_residual.ensures.1 in
    let problem : Problem = c.args.problem.now in
    let parts : List Part = c.loop-after.parts.items in
    rw (p.1, p.2)
    (⊎_elim
    (λ memory. inl memory)
    (λ is. inr (record {
      parts = parts;
      rest = c.loop-after.rest.now;
      are = c.loop-after.invariant;
      why = same_line c.args.version problem c.deref.result.now parts _ (c.args.first + length parts) (codes "part " ++ c.in-Some.after.now) c.loop-after.rest.now c.in_err-part.field-0.0 c.deref.ensures.value (omega arith)
          (sym (tag_takes (codes "part ") c.loop-after.rest.now c.in-Some.after.now c.in-Some.ensures)) is;
    }))
    c.in_err-part.ensures.refused)

pub loop-after-preserved : goal.loop-after-preserved
loop-after-preserved c =
    parts_push c.args.version c.args.problem.now c.args.bytes.now c.loop-after.parts.items c.push.new.self.items c.in_ok-part.part c.loop-after.rest.now c.in_ok-part.after.now c.in-Ok.ensures.items c.loop-after.invariant c.in_ok-part.ensures.part
    (subst (λ l. ComesAfter l c.in_ok-part.part.name) c.deref.ensures.value c.in_ok-part.ensures.after)
    (tag_takes (codes "part ") c.loop-after.rest.now c.in-Some.after.now c.in-Some.ensures ∙ c.in_ok-part.ensures.text)
