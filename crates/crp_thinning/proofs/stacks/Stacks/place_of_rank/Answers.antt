use Rattle.std.proofs.Common.{◌≡◌, ◌<◌, List, ℕ, [], length, get_or, refl, sym, ap, ◌∙◌, arith}
use Rattle.crp_plan.specs.Rows.{holds}
use Rattle.crp_bay.specs.Positions.{place}
use Rattle.crp_bay.proofs.Tops.{any_default}
use Rattle.crp_thinning.proofs.RowsOf.{found_there, found_nowhere}
use Rattle.crp_thinning.proofs.stacks.Stacks.place_of_rank.Goals as goal

pub returns-then-row-stacks-clause-value : goal.returns-then-row-stacks-clause-value
returns-then-row-stacks-clause-value c =
    let items : List (List ℕ) = c.self.inside.stacks.items in
    let row : ℕ = get_or c.self.inside.row_of c.args.rank 0 in
    ap length c.as_slice-stacks.ensures.value ∙ found_nowhere c.args.rank items c.self.inside.row_of c.self.invariant (λ lt. absurd (omega (arith, c.if-row-stacks.true, ap length c.as_slice-stacks.ensures.value))) ∙ ap (place c.args.rank) c.self.view_is

pub returns-then-is_in-clause-value : goal.returns-then-is_in-clause-value
returns-then-is_in-clause-value c =
    let items : List (List ℕ) = c.self.inside.stacks.items in
    let row : ℕ = get_or c.self.inside.row_of c.args.rank 0 in
    let lt : row < length c.as_slice-stacks.result.now = c.if-row-stacks.false in
    let here : get_or items row [] ≡ c.ranks.result.now = ap (λ l. get_or l row []) (sym c.as_slice-stacks.ensures.value) ∙ any_default c.as_slice-stacks.result.now row [] c.index-stacks-row.result lt ∙ sym c.index-stacks-row.is ∙ sym c.ranks.ensures.value in
    found_there c.args.rank row items c.self.inside.row_of c.self.invariant refl (omega (arith, lt, ap length c.as_slice-stacks.ensures.value)) (ap (holds c.args.rank) here ∙ sym c.is_in.ensures ∙ c.if-is_in.true) ∙ ap (place c.args.rank) c.self.view_is

pub returns-else-is_in-clause-value : goal.returns-else-is_in-clause-value
returns-else-is_in-clause-value c =
    let items : List (List ℕ) = c.self.inside.stacks.items in
    let row : ℕ = get_or c.self.inside.row_of c.args.rank 0 in
    let lt : row < length c.as_slice-stacks.result.now = c.if-row-stacks.false in
    let here : get_or items row [] ≡ c.ranks.result.now = ap (λ l. get_or l row []) (sym c.as_slice-stacks.ensures.value) ∙ any_default c.as_slice-stacks.result.now row [] c.index-stacks-row.result lt ∙ sym c.index-stacks-row.is ∙ sym c.ranks.ensures.value in
    ap length c.as_slice-stacks.ensures.value ∙ found_nowhere c.args.rank items c.self.inside.row_of c.self.invariant (λ _. ap (holds c.args.rank) here ∙ sym c.is_in.ensures ∙ c.if-is_in.false) ∙ ap (place c.args.rank) c.self.view_is
