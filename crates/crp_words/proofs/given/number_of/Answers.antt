use Rattle.std.proofs.Common.{ℕ, Option, IfSome, IfNone, subst}
use Rattle.clap.specs.Words.{Text, found_of}
use Rattle.clap.proofs.WalkLemmas.{one_text-rows}
use Rattle.crp_words.specs.Words.{ReadsNumber}
use Rattle.crp_words.proofs.Lacking.{number_none, number_some}
use Rattle.crp_words.proofs.given.number_of.Goals as goal

pub returns-clause-some : goal.returns-clause-some
returns-clause-some c =
    subst (λ (o : Option Text). IfSome c.get_one.result (ReadsNumber o)) (one_text-rows (found_of c.args.matches.now) c.args.name.now)
    (number_some _ c.get_one.result c.get_one.ensures.none c.get_one.ensures.value)

pub returns-clause-none : goal.returns-clause-none
returns-clause-none c =
    subst (λ (o : Option Text). IfNone c.get_one.result ((n : ℕ) → ReadsNumber o n → ⊥)) (one_text-rows (found_of c.args.matches.now) c.args.name.now)
    (number_none _ c.get_one.result c.get_one.ensures.value)
