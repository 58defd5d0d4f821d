use Rattle.std.proofs.Common.{◌∙◌, ◌++◌, [], take, refl, ap}
use Rattle.std.proofs.lemmas.Bool.{eqb-true}
use Rattle.crp_checker.proofs.Taken.{refilled, not_ended, nothing_consumed, kept_consumes}
use Rattle.crp_checker.proofs.unread.Unread.refill.Goals as goal

pub returns-in_default-clause-same : goal.returns-in_default-clause-same
returns-in_default-clause-same g c =
    refilled _ _ c.args.self.now _ [] c.requires.none c.requires.going (nothing_consumed _) (λ e. absurd (not_ended c.args.self.now.ended c.requires.going e))
    (c.in_default.ensures.items ∙ c.clear.ensures.items) refl

pub returns-in_default-read_some-clause-same : goal.returns-in_default-read_some-clause-same
returns-in_default-read_some-clause-same g c =
    refilled _ _ c.args.self.now _ [] c.requires.none c.requires.going (kept_consumes _ _ c.in_default-read_some.ensures.kept)
    (λ e. absurd (not_ended c.args.self.now.ended c.requires.going e)) (c.in-Ok.ensures.items ∙ c.clear.ensures.items) refl

pub returns-clause-same : goal.returns-clause-same
returns-clause-same g c =
    let got = take c.in-Ok-read_some.n c.read_some.new.piece in
    refilled _ _ c.args.self.now _ got c.requires.none c.requires.going c.in-Ok-read_some.ensures.got (λ e. c.in-Ok-read_some.ensures.end (eqb-true c.in-Ok-read_some.n 0 e))
    (c.in-Ok-extend_from_slice.ensures.items ∙ ap (λ l. l ++ got) (c.in-Ok.ensures.items ∙ c.clear.ensures.items)) refl
