-- Chains in thinned positions, as code finds them.
use Rattle.std.proofs.Common.{◌≡◌, ℕ, ◌<◌, ◌≤◌, ◌∷◌, ◌++◌, length, sym, arith}
use Rattle.std.proofs.lemmas.Option.{slice_get_within}
use Rattle.crp_plan.specs.Bay.{Position}
use Rattle.crp_plan.proofs.Lists.{times, times_held}
use Rattle.crp_plan.proofs.Steps.{same_rows}
use Rattle.crp_bay.specs.Positions.{place}
use Rattle.crp_bay.proofs.Walked.{is_place}
use Rattle.crp_bounds.proofs.Cutting.{times-append}
use Rattle.crp_chains.specs.declared.blocker.Blocker.{Blocker}
use Rattle.crp_chains.specs.Chains.{IsBlocker}
use Rattle.crp_chains.proofs.Clear.{IsClear}
use Rattle.crp_thinning.specs.Steps.{IsFine}

-- the turn of a container that blocks stands in a row
pub turn_there : (s : Position) (a : Blocker) → IsClear s → IsBlocker s a → place a.turn s.stacks < length s.stacks
turn_there s a clear i =
    let st = i.stands in
    let in_whole : 1 ≤ times a.turn (i.beneath ++ a.rank ∷ st.over) = omega (arith, times-append a.turn i.beneath (a.rank ∷ st.over), times_held a.turn i.beneath i.turn_stands) in
    omega (arith, is_place a.turn s.stacks st.row (i.beneath ++ a.rank ∷ st.over) (clear.once a.turn) st.stands in_whole, slice_get_within s.stacks st.row (i.beneath ++ a.rank ∷ st.over) st.stands)

-- a thinned position has as many stacks as heights
pub rows_thin : (count : ℕ) (s : Position) → IsFine count s → length s.heights ≡ length s.stacks
rows_thin count s f = sym (same_rows s.heights s.stacks f.stacks_fit)
