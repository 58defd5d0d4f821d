use Rattle.std.proofs.Common.{◌≡◌, ◌<◌, ◌≤◌, ℕ, suc, List, ◌++◌, ◌∷◌, [], length, get_or, Option, arith, sym, subst, ap, ◌∙◌, All, false, IsTrue, ◌↔◌, Bool}
use Rattle.std.proofs.lemmas.List.Elements.{All-push, recursion_from_All}
use Rattle.crp_plan.specs.Faults.{stacks_of, HasTiers}
use Rattle.crp_plan.specs.Rows.{occurrences}
use Rattle.crp_plan.proofs.Tallies.{Row, length-stacks_of}
use Rattle.crp_cert.specs.declared.size.Size.{Size}
use Rattle.crp_cert.specs.Faults.{AreHeightsOf, AreFirstStacks, IsNextStack}
use Rattle.crp_cert.specs.Reading.{row_at}
use Rattle.crp_cert.proofs.Lines.{row_takes}
use Rattle.crp_cert.proofs.Heights.{height_low}
use Rattle.crp_cert.proofs.Stacks.{AreNew, goes_on, next_new, first_low, stacks_push, length_push}
use Rattle.crp_cert.proofs.Verdicts.{next_height, no_row, not_next}
use Rattle.crp_cert.proofs.reading.next_stack.Goals as goal
use Rattle.crp_cert.proofs.reading.next_stack.Goals.{else-len-size-via-then-len-size+else-not-are_all, else-len-size-via-else-len-size}

-- a test that failed
refuted : {P : Type 0} (b : Bool) → IsTrue b ↔ P → b ≡ false → ¬ P
refuted b tells no' p = let yes = tells.1 p in cc

-- what was read of a row line under the height of its row
row_here : (heights : List ℕ) (rows : List Row) (n : ℕ) (bytes : List ℕ) (found : Option (List ℕ × List ℕ)) → n ≡ length rows → row_at (get_or heights n 0) bytes ≡ found → row_at (next_height heights (stacks_of rows)) bytes ≡ found
row_here heights rows n bytes found e f = ap (λ k. row_at (get_or heights k 0) bytes) (length-stacks_of rows ∙ sym e) ∙ f

-- the stacks with one more are not higher than eight
pushed_low : (size : Size) (heights : List ℕ) (rows : List Row) (row : Row) → AreHeightsOf size heights → AreFirstStacks size heights (stacks_of rows) → length rows < size.rows → length row.items ≤ next_height heights (stacks_of rows) →
    All (λ (r : Row). length r.items ≤ 8) (rows ++ row ∷ [])
pushed_low size heights rows row are first more low =
    let each = are.for_each_row in
    let eight = height_low heights (length (stacks_of rows)) (recursion_from_All (λ height. HasTiers height) heights are.are_heights) (omega (arith, length-stacks_of rows)) in
    All-push (λ (r : Row). length r.items ≤ 8) rows row (first_low size heights rows are first) (omega arith)

-- the ranks that are tested after a stack was added
all_there : (size : Size) (heights : List ℕ) (rows new : List Row) (row : Row) → new ≡ rows ++ row ∷ [] → IsNextStack size heights (stacks_of rows) row.items → suc (length rows) ≡ size.rows →
    (x : ℕ) → 1 ≤ x → x ≤ size.total → 0 < occurrences x (stacks_of new)
all_there size heights rows new row e next all x lo hi =
    subst (λ l. 0 < occurrences x l) (sym (ap stacks_of e ∙ stacks_push rows row))
    (next.none_missing (length_push (stacks_of rows) row.items ∙ ap suc (length-stacks_of rows) ∙ all) x lo hi)

pub returns-in_default-clause-none : goal.returns-in_default-clause-none
returns-in_default-clause-none c =
    let rows : List Row = c.args.stacks.now.items in
    no_row c.args.size c.args.heights.now (stacks_of rows) c.args.bytes.now c.requires.size (row_here c.args.heights.now rows c.len.result c.args.bytes.now _ (omega arith) (rw c.in_default.is at c.in_ok-stack.ensures))

pub are_new-requires-clause-fit : goal.are_new-requires-clause-fit
are_new-requires-clause-fit c =
    rw c.deref-2.ensures.value (first_low c.args.size c.args.heights.now c.args.stacks.now.items c.requires.heights c.requires.first)

pub returns-then-not-are_new-clause-none : goal.returns-then-not-are_new-clause-none
returns-then-not-are_new-clause-none c =
    let rows : List Row = c.args.stacks.now.items in
    not_next c.args.size c.args.heights.now (stacks_of rows) c.args.bytes.now c.in-Some.stack.items c.in-Some.rest.now c.requires.size
    (row_here c.args.heights.now rows c.len.result c.args.bytes.now _ (omega arith) (rw c.in-Some.is at c.in_ok-stack.ensures))
    (λ next. refuted c.are_new.result (rw (c.deref.ensures.value, c.deref-2.ensures.value) at c.are_new.ensures) c.if-not-are_new.true (next_new c.args.size c.args.heights.now (stacks_of rows) c.in-Some.stack.items next))

pub are_all-requires-clause-fit : goal.are_all-requires-clause-fit
are_all-requires-clause-fit c =
    let rows : List Row = c.args.stacks.now.items in
    let t = row_takes (next_height c.args.heights.now (stacks_of rows)) c.args.bytes.now c.in-Some.stack.items c.in-Some.rest.now
    (row_here c.args.heights.now rows c.len.result c.args.bytes.now _ (omega arith) (rw c.in-Some.is at c.in_ok-stack.ensures)) in
    rw (c.deref-then-len-size.ensures.value, c.in_ok-push.ensures.items) (pushed_low c.args.size c.args.heights.now rows c.in-Some.stack c.requires.heights c.requires.first (omega arith) t.1)

pub returns-then-not-are_all-clause-none : goal.returns-then-not-are_all-clause-none
returns-then-not-are_all-clause-none c =
    let rows : List Row = c.args.stacks.now.items in
    not_next c.args.size c.args.heights.now (stacks_of rows) c.args.bytes.now c.in-Some.stack.items c.in-Some.rest.now c.requires.size
    (row_here c.args.heights.now rows c.len.result c.args.bytes.now _ (omega arith) (rw c.in-Some.is at c.in_ok-stack.ensures))
    (λ next. refuted c.are_all.result c.are_all.ensures c.if-not-are_all.true
    (all_there c.args.size c.args.heights.now rows c.deref-then-len-size.result.now c.in-Some.stack (c.deref-then-len-size.ensures.value ∙ c.in_ok-push.ensures.items) next (omega arith)))

pub returns-clause-found : goal.returns-clause-found
returns-clause-found c =
    let rows : List Row = c.args.stacks.now.items in
    let row : Row = c.in-Some.stack in
    let t = row_takes (next_height c.args.heights.now (stacks_of rows)) c.args.bytes.now row.items c.in-Some.rest.now
    (row_here c.args.heights.now rows c.len.result c.args.bytes.now _ (omega arith) (rw c.in-Some.is at c.in_ok-stack.ensures)) in
    let new : c.push.new.self.items ≡ rows ++ row ∷ [] = c.in_ok-push.ensures.items in
    let are : AreNew c.args.size.total (stacks_of rows) row.items = (rw (c.deref.ensures.value, c.deref-2.ensures.value) at c.are_new.ensures).0 c.if-not-are_new.false in (
      row.items,
      goes_on c.args.size c.args.heights.now (stacks_of rows) row.items c.requires.heights c.requires.first (omega (arith, length-stacks_of rows)) t.1 are
          (λ all x lo hi.
          elim c.else-len-size.branch [
            | else-len-size-via-then-len-size+else-not-are_all w ↦
                subst (λ l. 0 < occurrences x l) (ap stacks_of (w.deref-then-len-size.ensures.value ∙ new) ∙ stacks_push rows row) (w.are_all.ensures.0 w.if-not-are_all.false x lo hi)
            | else-len-size-via-else-len-size w ↦ absurd (w.if-len-size.false (omega (arith, length-stacks_of rows, c.in_ok-push.ensures.len)))
          ]),
      t.0,
      ap stacks_of new ∙ stacks_push rows row,
    )
