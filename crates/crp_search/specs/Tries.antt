-- How a walk goes on at a node that no bound closes, and what that claims.
use Rattle.std.specs.Prelude.{◌≡◌, ℕ, ◌+◌, ◌<◌, ◌≤◌, List, ⊤}
use Rattle.crp_plan.specs.declared.running.View.{View}
use Rattle.crp_plan.specs.Bay.{Position}
use Rattle.crp_thinning.specs.declared.claims.Unclosed.{Unclosed}
use Rattle.crp_thinning.specs.declared.claims.Unclosed.TheVariants.{Open, Refused, Memory}
use Rattle.crp_thinning.specs.Symbols.{Closes}
use Rattle.crp_search.specs.declared.reasons.Way.{Way}
use Rattle.crp_search.specs.declared.reasons.Way.TheVariants as way
use Rattle.crp_search.specs.Limits.{OnlyGrants}

-- claims that were all granted, so many for an expansion, and at most so many for thinned branches
pub record OnlyGranted (expansions most : ℕ) (old new : View) : Type 0 where
  pub only : OnlyGrants old new
  pub enough : old.granted + expansions ≤ new.granted
  pub few : new.granted ≤ old.granted + expansions + most

-- claims for thinned branches, at most so many of which were granted, and one that was refused, now or before
pub record LastRefused (most : ℕ) (old new : View) : Type 0 where
  pub only : new ≡ record old { granted = new.granted; refused = new.refused }
  pub enough : old.granted ≤ new.granted
  pub few : new.granted ≤ old.granted + most
  pub some : 0 < new.refused
  pub no_less : old.refused ≤ new.refused
  pub one_more : new.refused ≤ old.refused + 1

-- what a try claimed that did not close its node, by why it did not
abbrev pub EndsTry : ℕ → Unclosed → View → View → Type 0
EndsTry most Open old new = OnlyGranted 0 most old new
EndsTry most Refused old new = LastRefused most old new
EndsTry most Memory old new = OnlyGranted 0 most old new

-- what was claimed on a way on
abbrev pub GoesOn : ℕ → Way → View → View → Type 0
GoesOn most (way.Closed bound) old new = OnlyGranted 0 most old new
GoesOn most way.Granted old new = OnlyGranted 1 most old new
GoesOn most way.Refused old new = LastRefused most old new

-- where the way on is that reasons close the position, they show just what is needed, and this is their text
abbrev pub IfCloses : Position → ℕ → List ℕ → Way → Type 0
IfCloses s need text (way.Closed bound) = (bound ≡ need) × (bound ≤ 255) × Closes s bound text
IfCloses s need text way.Granted = ⊤
IfCloses s need text way.Refused = ⊤
