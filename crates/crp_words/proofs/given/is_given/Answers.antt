use Rattle.std.proofs.Common.{◌≡◌, ◌∙◌, Some, refl, ap, sym}
use Rattle.std.proofs.lemmas.Bool.{false≢true}
use Rattle.clap.specs.Words.{found_of}
use Rattle.clap.specs.declared.parser.matches.ValueSource.TheVariants.{CommandLine, DefaultValue}
use Rattle.crp_words.proofs.HeightSteps.{given, not_given}
use Rattle.crp_words.proofs.given.is_given.Goals as goal

pub returns-in_default : goal.returns-in_default
returns-in_default c = (
  λ yes. absurd (false≢true yes),
  λ is. absurd (not_given (found_of c.args.matches.now) c.args.name.now c.value_source.result c.value_source.ensures (c.in_default.not-Some CommandLine) is),
)

pub returns-in-CommandLine : goal.returns-in-CommandLine
returns-in-CommandLine c = (
  λ yes. given (found_of c.args.matches.now) c.args.name.now c.value_source.result c.value_source.ensures (c.in-Some.is ∙ ap Some c.in-CommandLine.is),
  λ is. refl,
)

pub returns-in-DefaultValue : goal.returns-in-DefaultValue
returns-in-DefaultValue c =
    let other : c.value_source.result ≡ Some DefaultValue = c.in-Some.is ∙ ap Some c.in-DefaultValue.is in (
      λ yes. absurd (false≢true yes),
      λ is. absurd (not_given (found_of c.args.matches.now) c.args.name.now c.value_source.result c.value_source.ensures
          (λ e. let apart : Some DefaultValue ≡ Some CommandLine = sym other ∙ e in cc) is),
    )
