use Rattle.std.proofs.Common.{refl}
use Rattle.std.specs.Fmt.{digits}
use Rattle.std.specs.Str.{is_utf8, chars}
use Rattle.hex.specs.Hex.{encode_with}
use Rattle.json.proofs.OnLiterals.{json_on_literals}
use Rattle.crp_json.proofs.laws.worked_cases.Goals as goal

pub returns-clause-first : goal.returns-clause-first
unfolding digits chars is_utf8 encode_with json_on_literals
returns-clause-first c = refl

pub returns-clause-no_plan : goal.returns-clause-no_plan
unfolding digits chars is_utf8 encode_with json_on_literals
returns-clause-no_plan c = refl

pub returns-clause-settled : goal.returns-clause-settled
unfolding digits chars is_utf8 encode_with json_on_literals
returns-clause-settled c = refl

pub returns-clause-bounded : goal.returns-clause-bounded
unfolding digits chars is_utf8 encode_with json_on_literals
returns-clause-bounded c = refl

pub returns-clause-outside : goal.returns-clause-outside
unfolding digits chars is_utf8 encode_with json_on_literals
returns-clause-outside c = refl

pub returns-clause-last : goal.returns-clause-last
unfolding digits chars is_utf8 encode_with json_on_literals
returns-clause-last c = refl

pub returns-clause-shown_bounds : goal.returns-clause-shown_bounds
unfolding digits chars is_utf8 encode_with json_on_literals
returns-clause-shown_bounds c = refl

pub returns-clause-shown_first : goal.returns-clause-shown_first
unfolding digits chars is_utf8 encode_with json_on_literals
returns-clause-shown_first c = refl

pub returns-clause-audited : goal.returns-clause-audited
unfolding digits chars is_utf8 encode_with json_on_literals
returns-clause-audited c = refl

pub returns-clause-bounds : goal.returns-clause-bounds
unfolding digits chars is_utf8 encode_with json_on_literals
returns-clause-bounds c = refl

pub returns-clause-ranks : goal.returns-clause-ranks
unfolding digits chars is_utf8 encode_with json_on_literals
returns-clause-ranks c = refl
