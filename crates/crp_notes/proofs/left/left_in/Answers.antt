use Rattle.std.proofs.Common.{◌∙◌, ◌++◌, ℕ, List, filter, take, sym, ap, arith}
use Rattle.crp_notes.specs.Left.{is_left, left_in}
use Rattle.crp_notes.proofs.Placed.{stacks_more, all_rows}
use Rattle.crp_notes.proofs.Leaving.{left-more}
use Rattle.crp_notes.proofs.left.left_in.Goals as goal

pub loop-i-preserved : goal.loop-i-preserved
loop-i-preserved c = λ b sequence moves at h.
    let stack = c.stack.result.now in
    let more = stacks_more c.args.yard.now c.args.bay c.loop-i.i stack b at c.stack.ensures in
    c.in_ok-push_left.ensures (is_left sequence moves) h
    ∙ ap (λ (l : List (List ℕ)). l ++ filter (is_left sequence moves) stack) (c.loop-i.invariant b sequence moves at h)
    ∙ sym (ap (left_in sequence moves) more ∙ left-more sequence moves (take c.loop-i.i b.1) stack)

pub returns : goal.returns
returns c = λ b sequence moves at h.
    let all = all_rows c.args.yard.now c.args.bay c.loop-i.i c.heights.result.now b c.heights.ensures.yard at c.heights.ensures.value (omega arith) in
    c.loop-i.invariant b sequence moves at h ∙ ap (left_in sequence moves) all
