use Rattle.std.proofs.Common.{inl, inr, refl, ◌∙◌, arith}
use Rattle.crp_checker.proofs.Growing.{ends_stopped, name_ends}
use Rattle.crp_checker.proofs.opening.part_opening.Goals as goal

pub returns-in-None : goal.returns-in-None
returns-in-None c =
    let space = c.ends_with_space.ensures.0 c.if-ends_with_space.true in (refl, inl (ends_stopped 32 c.args.behind.now space.0 space.1), c.in-None.ensures.none)

pub returns-then-behind-ge-MAX_SPELLED : goal.returns-then-behind-ge-MAX_SPELLED
returns-then-behind-ge-MAX_SPELLED c =
    (refl, inr (omega arith), λ name fits e. let space = c.ends_with_space.ensures.1 (_, e ∙ name_ends name) in let not = c.if-ends_with_space.false in cc)
