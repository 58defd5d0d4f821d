use Rattle.std.proofs.Common.{◌≡◌, ℕ, List, ◌++◌, length, IsTrue, ◌↔◌, Bool, false, inr, refl, sym, ap, ◌∙◌, arith}
use Rattle.std.proofs.lemmas.Bool.{eqb-false, eqb-true}
use Rattle.crp_tree.specs.Claims.{Part}
use Rattle.crp_cert.specs.Script.{symbols_line, part_line}
use Rattle.crp_cert.proofs.PartTests.{none_given, can_spell}
use Rattle.crp_cert.proofs.PartLines.{no_part, begins_with}
use Rattle.crp_cert.proofs.PartFaults.{parsed_line, left_over, all_used}
use Rattle.crp_cert.proofs.certs.next_part.Goals as goal

-- a test that failed
refuted : {P : Type 0} (b : Bool) → IsTrue b ↔ P → b ≡ false → ¬ P
refuted b tells no' p = let yes' = tells.1 p in cc

pub returns-in_default-clause-refused : goal.returns-in_default-clause-refused
returns-in_default-clause-refused c =
    inr (refl, (c.args.bytes.now, refl), no_part c.args.problem.now c.args.bytes.now c.in_default.ensures.problem c.in_default.ensures.value)

pub returns-then-not-comes_after-clause-refused : goal.returns-then-not-comes_after-clause-refused
returns-then-not-comes_after-clause-refused c =
    let parsed = c.in-Some.parsed in
    inr (
      refl,
      (
        parsed_line c.args.problem.now c.args.bytes.now parsed.name parsed.symbols.now parsed.rest.now parsed.place.place c.in-Some.ensures.at c.in-Some.ensures.value,
        refuted c.comes_after.result c.comes_after.ensures c.if-not-comes_after.true,
      ),
    )

pub returns-then-not-are_symbols-clause-refused : goal.returns-then-not-are_symbols-clause-refused
returns-then-not-are_symbols-clause-refused c =
    let parsed = c.in-Some.parsed in
    inr (
      refl,
      (
        parsed_line c.args.problem.now c.args.bytes.now parsed.name parsed.symbols.now parsed.rest.now parsed.place.place c.in-Some.ensures.at c.in-Some.ensures.value,
        c.comes_after.ensures.0 c.if-not-comes_after.false,
        refuted c.are_symbols.result c.are_symbols.ensures c.if-not-are_symbols.true,
      ),
    )

pub returns-in_default-2-clause-refused : goal.returns-in_default-2-clause-refused
returns-in_default-2-clause-refused c =
    let parsed = c.in-Some.parsed in
    inr (
      refl,
      (
        parsed_line c.args.problem.now c.args.bytes.now parsed.name parsed.symbols.now parsed.rest.now parsed.place.place c.in-Some.ensures.at c.in-Some.ensures.value,
        c.comes_after.ensures.0 c.if-not-comes_after.false,
        c.are_symbols.ensures.0 c.if-not-are_symbols.false,
        (rw c.in_default-2.is at c.in_ok-tree.ensures).none,
      ),
    )

pub returns-then-not-is_empty-clause-refused : goal.returns-then-not-is_empty-clause-refused
returns-then-not-is_empty-clause-refused c =
    let parsed = c.in-Some.parsed in
    let r = (rw c.in-Some-2.is at c.in_ok-tree.ensures).found in
    let ne = eqb-false (length c.in-Some-2.left.now) 0 (sym c.is_empty.ensures ∙ c.if-not-is_empty.true) in
    inr (
      refl,
      (
        parsed_line c.args.problem.now c.args.bytes.now parsed.name parsed.symbols.now parsed.rest.now parsed.place.place c.in-Some.ensures.at c.in-Some.ensures.value,
        c.comes_after.ensures.0 c.if-not-comes_after.false,
        c.are_symbols.ensures.0 c.if-not-are_symbols.false,
        left_over parsed.symbols.now c.in-Some-2.left.now parsed.place.place c.in-Some-2.tree r.0 r.1 (omega arith),
      ),
    )

pub returns-clause-part : goal.returns-clause-part
returns-clause-part c =
    let parsed = c.in-Some.parsed in
    let r = (rw c.in-Some-2.is at c.in_ok-tree.ensures).found in
    let are = c.are_symbols.ensures.0 c.if-not-are_symbols.false in
    rw c.new.ensures
    (record {
      short = (begins_with c.args.problem.now c.args.bytes.now parsed.name parsed.symbols.now parsed.rest.now c.in-Some.ensures.value).0;
      place = parsed.place.place;
      is_at = c.in-Some.ensures.at;
      fits = r.0;
      not_given = none_given c.args.version parsed.symbols.now c.in-Some-2.left.now c.in-Some-2.tree are r.1;
      can_spell = can_spell c.args.version parsed.place.place c.in-Some-2.tree parsed.symbols.now c.in-Some-2.left.now r.0 r.1 are;
    })

pub returns-clause-text : goal.returns-clause-text
returns-clause-text c =
    let parsed = c.in-Some.parsed in
    let r = (rw c.in-Some-2.is at c.in_ok-tree.ensures).found in
    (begins_with c.args.problem.now c.args.bytes.now parsed.name parsed.symbols.now parsed.rest.now c.in-Some.ensures.value).2
    ∙ ap (λ (l : List ℕ). symbols_line parsed.name l ++ parsed.rest.now) (all_used parsed.symbols.now c.in-Some-2.left.now c.in-Some-2.tree r.1 (eqb-true (length c.in-Some-2.left.now) 0 (sym c.is_empty.ensures ∙ c.if-not-is_empty.false)))
    ∙ ap (λ (part : Part). part_line part ++ parsed.rest.now) (sym c.new.ensures)
