-- The words so far stand behind the text.
use Rattle.std.proofs.Common.{◌≡◌, ◌++◌, map, take}
use Rattle.std.specs.Prelude.{codes, flat_map}
use Rattle.crp_notes.proofs.wording.push_others.Given as goal

abbrev pub invariant-loop-other : goal.invariant-loop-other
invariant-loop-other l = l.text.items ≡ l.initial.text.items ++ flat_map (λ other. codes ", " ++ other) (map (λ other. other.items) (take l.other-index l.words))
