-- What nobody has chosen. No clause of a caller speaks of it.
use Rattle.std.specs.Prelude.{false}
use Rattle.crp_solve.specs.Chosen.{Chosen, no_limits}

-- one worker and no expansion
abbrev pub nothing_chosen : Chosen
nothing_chosen = record { workers = 1; budget = 0; split = 0; first = false; beam = 0; deepen = false; thin = 0; chains = false; time = no_limits }
