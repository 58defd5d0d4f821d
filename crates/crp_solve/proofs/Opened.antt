-- The workers of a search before they begin.
use Rattle.std.proofs.Common.{◌≡◌, ℕ, ◌+◌, List, [], ◌∷◌, ◌++◌, map, append_assoc, sym, refl, ap, ◌∙◌, subst, arith}
use Rattle.std.proofs.lemmas.List.{map-append}
use Rattle.crp_incumbent.specs.Rule.{view_kept}
use Rattle.crp_incumbent.specs.Seats.{Shared, Seat, with_view}
use Rattle.crp_pool.specs.Deques.{DequeId}
use Rattle.crp_pool.specs.Seats.{PoolSeat}
use Rattle.crp_solve.specs.Groups.{Crew, keys, all_keys, place_key, shares, IsUnusedSeat}

-- a seat that gave a share away
pub kept_new : (of : Shared) (left kept : Seat) → kept ≡ with_view left (view_kept left.view) → IsUnusedSeat of left → IsUnusedSeat of kept
kept_new of left kept e n = subst (IsUnusedSeat of) (sym e) (record { words = n.words; is_problem = n.is_problem; none_granted = n.none_granted; none_refused = n.none_refused; mine = n.mine; seen = n.seen })

pub keys-append : (xs ys : List Crew) → all_keys (xs ++ ys) ≡ all_keys xs ++ all_keys ys
keys-append [] ys = refl
keys-append (x ∷ xs) ys = ap (λ l. keys x ++ l) (keys-append xs ys) ∙ sym (append_assoc (keys x) (all_keys xs) (all_keys ys))

pub shares-append : (xs ys : List Crew) → shares (xs ++ ys) ≡ shares xs + shares ys
shares-append [] ys = omega arith
shares-append (x ∷ xs) ys = omega (arith, shares-append xs ys)

-- the places of one group more
pub keys_snoc : (before : List (List DequeId × DequeId × ℕ)) (gs : List Crew) (g : Crew) (ys : List PoolSeat) (y : PoolSeat) → keys g ≡ place_key y ∷ [] → all_keys gs ≡ before ++ map place_key ys →
    all_keys (gs ++ g ∷ []) ≡ before ++ map place_key (ys ++ y ∷ [])
keys_snoc before gs g ys y one so_far =
    keys-append gs (g ∷ []) ∙ ap (λ l. l ++ (keys g ++ [])) so_far ∙ ap (λ l. (before ++ map place_key ys) ++ (l ++ [])) one ∙ append_assoc before (map place_key ys) (place_key y ∷ []) ∙ ap (λ l. before ++ l) (sym (map-append place_key ys (y ∷ [])))
