-- The names behind have their numbers.
use Rattle.std.proofs.Common.{◌≡◌, List, ℕ, drop, map}
use Rattle.std.specs.Map.{lookup}
use Rattle.std.specs.Str.{bytes_eq}
use denote.Ref.{Bor}
use Rattle.crp_loading.specs.Turns.{number_from}
use Rattle.crp_loading.proofs.ship.numbers_of.Given as goal

abbrev pub invariant-loop-i : goal.invariant-loop-i
invariant-loop-i l = (c : Bor (List ℕ)) → lookup (λ key. bytes_eq c.now key.now) l.numbers.entries ≡ number_from l.i (map (λ name. name.now) (drop l.i l.names)) c.now
