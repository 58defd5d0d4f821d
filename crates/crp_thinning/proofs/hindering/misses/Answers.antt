use Rattle.std.proofs.Common.{◌≡◌, ℕ, not, nat_le, nat_lt, sym, ap, ◌∙◌, ⊎_elim, arith}
use Rattle.std.proofs.lemmas.Bool.{cases_lt, lt-ltb, le-ltb, le-leb, lt-leb}
use Rattle.crp_bounds.specs.Bounds.{holds_lower}
use Rattle.crp_bounds.proofs.Leasts.{lower_is_least}
use Rattle.crp_thinning.proofs.hindering.misses.Goals as goal

-- none is lower where it is at most the least
not_lower : (least other : ℕ) → nat_le other least ≡ not (nat_lt least other)
not_lower least other = ⊎_elim
    (λ lt. lt-leb other least lt ∙ sym (ap not (lt-ltb least other lt)))
    (λ ge. le-leb other least ge ∙ sym (ap not (le-ltb least other ge)))
    (cases_lt least other)

pub returns-then-lower : goal.returns-then-lower
returns-then-lower c ordered onto is =
    let e : nat_le c.args.other c.args.least ≡ not (holds_lower ordered c.args.other onto) =
    not_lower c.args.least c.args.other ∙ ap (λ n. not (nat_lt n c.args.other)) is ∙ sym (ap not (lower_is_least ordered c.args.other onto (omega arith))) in
    rw (lt-ltb c.args.rank c.args.other c.if-rank-other.true) (rw c.if-lower.true e)
