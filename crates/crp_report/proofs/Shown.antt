-- What was shown beside the texts.
use Rattle.std.proofs.Common.{ℕ, List, [], ◌++◌, Option, Result, Ok, Err, take}
use Rattle.std.specs.Prelude.{OnOk, OnErr}
use Rattle.std.specs.Io.KnownBytes.{Appends}
use Rattle.std.proofs.KnownBytes.{Appends-nil, Appends-trans}
use Rattle.crp_plan.specs.Devices.{AppendsPart}
use Rattle.crp_report.specs.Watching.{ShowsMore}

pub shows_nothing : (held : Option (List ℕ)) → ShowsMore held held
shows_nothing held = ([], Appends-nil held)

pub shows_then : (held mid holds : Option (List ℕ)) → ShowsMore held mid → ShowsMore mid holds → ShowsMore held holds
shows_then held mid holds (first, one) (next, two) = (first ++ next, Appends-trans held mid holds first next one two)

-- a text, or a part of it
pub shows_text : {T F : Type 0} (r : Result T F) (held holds : Option (List ℕ)) (text : List ℕ) → OnOk r (Appends held holds text) → OnErr r (AppendsPart held holds text) → ShowsMore held holds
shows_text (Ok v) held holds text all part = (text, all)
shows_text (Err e) held holds text all (n, small, took) = (take n text, took)
