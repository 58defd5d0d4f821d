-- What is behind the first colon with a blank stands in the rest.
use Rattle.std.proofs.Common.{◌≡◌, length}
use Rattle.crp_json.specs.Errors.{behind_colon}
use Rattle.crp_json.proofs.error_objects.behind_colon.Given as goal

abbrev pub invariant-loop-rest : goal.invariant-loop-rest
invariant-loop-rest l = behind_colon l.rest ≡ behind_colon l.text

abbrev pub decreases-loop-rest : goal.decreases-loop-rest
decreases-loop-rest l = length l.rest
