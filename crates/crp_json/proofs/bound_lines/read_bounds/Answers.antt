use Rattle.crp_json.specs.Entries.{bound_lines}
use Rattle.crp_json.proofs.BoundLines.{no_blocking, no_look_ahead, no_chains_behind}
use Rattle.crp_json.proofs.bound_lines.read_bounds.Goals as goal

pub returns-in_default-clause-none : goal.returns-in_default-clause-none
returns-in_default-clause-none c = λ b all e. c.in_default.ensures.none b.bay (bound_lines b) all.0 e

pub returns-in_default-number_line-clause-none : goal.returns-in_default-number_line-clause-none
returns-in_default-number_line-clause-none c =
    let t = c.in-Some.ensures.found in
    no_blocking c.args.text.now c.in-Some.bay c.in-Some.rest.now t.0 t.1 c.in_default-number_line.ensures.none

pub returns-in_default-number_line-2-clause-none : goal.returns-in_default-number_line-2-clause-none
returns-in_default-number_line-2-clause-none c =
    let t = c.in-Some.ensures.found in
    let n = c.in-Some-number_line.ensures.found in
    no_look_ahead c.args.text.now c.in-Some.bay c.in-Some.rest.now c.in-Some-number_line.blocking c.in-Some-number_line.rest.now t.0 t.1 n.1 c.in_default-number_line-2.ensures.none

pub returns-in_default-2-clause-none : goal.returns-in_default-2-clause-none
returns-in_default-2-clause-none c =
    let t = c.in-Some.ensures.found in
    let n = c.in-Some-number_line.ensures.found in
    let k = c.in-Some-number_line-2.ensures.found in
    no_chains_behind c.args.text.now c.in-Some.bay c.in-Some.rest.now c.in-Some-number_line.blocking c.in-Some-number_line.rest.now c.in-Some-number_line-2.look_ahead
    c.in-Some-number_line-2.rest.now t.0 t.1 n.1 k.1 (rw c.in_default-2.is at c.in_ok-chains.ensures.none)
