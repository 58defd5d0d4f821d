-- What is kept of a head.
use Rattle.std.specs.Prelude.{ℕ, List}
use Rattle.crp_checker.specs.declared.need.Need.{Need}
use Rattle.crp_checker.specs.Nodes.{need_of}

-- what is kept of a head says what each cut needs
abbrev pub need_by : Need → List ℕ → ℕ
need_by need = need_of need.claim need.plan
