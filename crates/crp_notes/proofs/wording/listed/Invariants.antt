-- The names so far are quoted.
use Rattle.std.proofs.Common.{◌≡◌, map, take}
use Rattle.crp_notes.specs.Wording.{quoted}
use Rattle.crp_notes.proofs.wording.listed.Given as goal

abbrev pub invariant-loop-name : goal.invariant-loop-name
invariant-loop-name l = map (λ word. word.items) l.words.items ≡ map quoted (map (λ name. name.now) (take l.name-index l.names))
