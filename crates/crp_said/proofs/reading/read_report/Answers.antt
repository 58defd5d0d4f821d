use Rattle.std.proofs.Common.{◌≡◌, ◌∙◌, sym, ap, refl, inl, inr, ◌++◌, [], ℕ, List, map, append_assoc, false, length, ◌==◌}
use Rattle.crp_said.specs.declared.numbers.Numbers.{Numbers}
use Rattle.crp_said.specs.Said.{bays_line, BaySaid}
use Rattle.crp_said.specs.Spelled.{front_text, StopsAtLine, GoesOnBehind}
use Rattle.crp_said.specs.Views.{bay_as}
use Rattle.crp_said.proofs.reading.read_report.Goals as goal

pub returns-in_default-last_line-clause-refused : goal.returns-in_default-last_line-clause-refused
returns-in_default-last_line-clause-refused c =
    let o = c.loop-bay.invariant in
    let n : Numbers = c.in-Some.numbers in
    let bays : List BaySaid = map bay_as c.loop-bay.bays.items in
    let first = c.in-Some.ensures.found in
    let stop : StopsAtLine c.args.text.now c.line_at.result = record {
      numbers = n;
      bays = bays;
      rest = c.loop-bay.rest.now;
      small = first.0;
      sayable = o.sayable;
      is = o.text;
      line_is = c.line_at.ensures (front_text n bays) o.text;
      no_bay = c.in_default-next_bay.ensures.none;
      no_move = o.no_move;
      no_last = c.in_default-last_line.ensures.none;
    } in
    inr (c.line_at.result, refl, inr (inl stop))

pub returns-then-not-is_empty-clause-refused : goal.returns-then-not-is_empty-clause-refused
returns-then-not-is_empty-clause-refused c =
    let o = c.loop-bay.invariant in
    let n : Numbers = c.in-Some.numbers in
    let bays : List BaySaid = map bay_as c.loop-bay.bays.items in
    let first = c.in-Some.ensures.found in
    let last = c.in-Some-last_line.ensures.found in
    let count : ℕ = c.in-Some-last_line.count in
    let settled : ℕ = c.in-Some-last_line.settled in
    let more : List ℕ = c.in-Some-last_line.more.now in
    let text = o.text ∙ ap (λ l. front_text n bays ++ l) last.2 ∙ sym (append_assoc (front_text n bays) (bays_line count settled) more) in
    let goes : GoesOnBehind c.args.text.now c.line_at-then-not-is_empty.result = record {
      report = record { numbers = n; bays = bays; count = count; settled = settled };
      more = more;
      is_report = record { numbers = first.0; bays = o.sayable; count = last.0; settled = last.1 };
      is = text;
      some = λ e. let u : false ≡ (length {A = ℕ} [] == 0) = sym c.if-not-is_empty.true ∙ c.is_empty.ensures ∙ ap (λ (l : List ℕ). length l == 0) e in cc;
      line_is = c.line_at-then-not-is_empty.ensures (front_text n bays ++ bays_line count settled) text;
    } in
    inr (c.line_at-then-not-is_empty.result, refl, inr (inr goes))
