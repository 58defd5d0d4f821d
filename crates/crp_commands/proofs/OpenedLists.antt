-- A list that is opened, and closed again.
use Rattle.std.proofs.Common.{◌≡◌, ◌∙◌, ℕ, List, Option, drop, ap, subst}
use Rattle.crp_plan.specs.Devices.{CountsMore}
use Rattle.crp_files.specs.Known.{KnownFiles}
use Rattle.crp_report.specs.Runs.{SourceSeen}
use Rattle.crp_separated.specs.declared.input.ListInput.{ListInput}
use Rattle.crp_separated.specs.Given.{seen, unmarked}
use Rattle.crp_separated.specs.Inputs.{comma_list_of, of_input}
use Rattle.crp_commands.specs.Lists.{IsListOpened}

-- what a list states of itself, by what its file does
abbrev pub list_bytes : {R : Type 0} → (R → Option (List ℕ)) → ListInput R → Option (List ℕ)
list_bytes remaining = of_input
    (λ s. seen s.separators.from s.separators.to s.place (drop s.given s.ready.items) (unmarked s.source.looked s.source.front.items (remaining s.source.source))) remaining

abbrev pub list_failures : {R : Type 0} → (R → ℕ) → ListInput R → ℕ
list_failures failures = of_input (λ s. failures s.source.source) failures

-- a list of which this is known, and whose file had this
pub list_opened : (known : KnownFiles) (separator : ℕ) (name : List ℕ) (s : SourceSeen) (file : Option (List ℕ)) (failed : ℕ) → s.given ≡ comma_list_of separator file
    → s.before ≡ failed → file ≡ known.given name → failed ≡ 0 → IsListOpened known separator name s
list_opened known separator name s file failed given before is new = record { bytes = given ∙ ap (comma_list_of separator) is; new = before ∙ new }

-- what failed of a list is what failed of its file
pub list_closed : (a b before after : ℕ) → a ≡ b → CountsMore a before after → CountsMore b before after
list_closed a b before after same closed = subst (λ (n : ℕ). CountsMore n before after) same closed
