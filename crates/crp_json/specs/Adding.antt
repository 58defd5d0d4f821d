-- What is added to a text of JSON that is under way. Only private clauses speak of it.
use Rattle.std.specs.Prelude.{◌≡◌, List, ◌++◌, OnOk, Result}
use Rattle.json.specs.Token.{Token}
use Rattle.json.specs.Written.{Written}

-- these tokens are added
abbrev pub Adds : {E : Type 0} → Result (Unit {0}) E → Written → Written → List Token → Type 0
Adds r old new added = OnOk r ((new.before ≡ old.before) × (new.tokens ≡ old.tokens ++ added))
