use Rattle.std.proofs.Common.{refl}
use Rattle.std.specs.Str.{is_utf8, chars}
use Rattle.hex.specs.Hex.{encode_with}
use Rattle.json.proofs.OnLiterals.{json_on_literals}
use Rattle.crp_json.proofs.laws.worked_errors.Goals as goal

pub returns-clause-note : goal.returns-clause-note
unfolding chars is_utf8 encode_with json_on_literals
returns-clause-note c = refl

pub returns-clause-hex : goal.returns-clause-hex
unfolding chars is_utf8 encode_with json_on_literals
returns-clause-hex c = refl

pub returns-clause-progress : goal.returns-clause-progress
unfolding chars is_utf8 encode_with json_on_literals
returns-clause-progress c = refl

pub returns-clause-fault : goal.returns-clause-fault
unfolding chars is_utf8 encode_with json_on_literals
returns-clause-fault c = refl

pub returns-clause-named : goal.returns-clause-named
unfolding chars is_utf8 encode_with json_on_literals
returns-clause-named c = refl

pub returns-clause-first : goal.returns-clause-first
unfolding chars is_utf8 encode_with json_on_literals
returns-clause-first c = refl

pub returns-clause-alone : goal.returns-clause-alone
unfolding chars is_utf8 encode_with json_on_literals
returns-clause-alone c = refl

pub returns-clause-no_place : goal.returns-clause-no_place
unfolding chars is_utf8 encode_with json_on_literals
returns-clause-no_place c = refl

pub returns-clause-no_code : goal.returns-clause-no_code
unfolding chars is_utf8 encode_with json_on_literals
returns-clause-no_code c = refl

pub returns-clause-advice : goal.returns-clause-advice
unfolding chars is_utf8 encode_with json_on_literals
returns-clause-advice c = refl
