-- The first worker at a place of another pool.
use Rattle.std.proofs.Common.{length, ◌≡◌, ◌<◌, ◌≤◌, ℕ, zero, suc, ◌+◌, Bool, true, false, not, IsTrue, List, [], ◌∷◌, ◌++◌, map, All, sym, ap, ◌∙◌, refl, subst, arith, slice_index_or}
use Rattle.std.specs.List.{remove}
use Rattle.crp_pool.specs.Weigh.{weigh, SameNames}
use Rattle.crp_pool.specs.Deques.{DequeId}
use Rattle.crp_pool.specs.Seats.{PoolSeat, SameSeat, IsEverySeat, all_puts, all_takes, seat_number, numbers}
use Rattle.crp_pool.proofs.Hands.{weigh-append}
use Rattle.crp_solve.specs.Groups.{Crew, Keeping, root_at, roots, IsGroup, IsUnused}
use Rattle.crp_solve.proofs.Begun.{first_root}
use Rattle.crp_solve.proofs.Joining.{one_root}

moved_group : (keeps : Keeping) (g : Crew) (pool : List DequeId) (q s : PoolSeat) (puts : List (List ℕ)) (fit : Bool) → IsGroup keeps g → g.short ≡ false → IsEverySeat pool g.places → 0 < length pool →
    all_takes g.places ≡ [] → IsUnused q → q.number ≡ 0 → SameSeat q s → s.takes ≡ q.takes → (IsTrue fit → SameNames s.puts puts) → SameNames puts (all_puts g.places) →
    IsGroup keeps (record g { places = s ∷ []; short = not fit })
moved_group keeps g pool q s puts false k whole every some none new first same takes fits put = record { kept = k.kept; counted = λ ok. absurd (cc); timely = k.timely }
moved_group keeps g pool q s puts true k whole every some none new first same takes fits put =
    let c = k.counted whole in
    record {
      kept = k.kept;
      timely = k.timely;
      counted = λ ok. record {
        grants = c.grants;
        takes = λ h. (
            let n : s.number ≡ 0 = same.3 ∙ first in let t : weigh h s.takes ≡ 0 = ap (weigh h) (takes ∙ new.no_takes) in
            let a = c.takes h in let b : weigh h (all_takes g.places) ≡ 0 = ap (weigh h) none in
            omega (arith, first_root h s n, one_root pool g.places some every h, weigh-append h (roots g.places) (all_takes g.places), weigh-append h (root_at s) [], weigh-append h s.takes [], weigh-append h (root_at s ++ []) (s.takes ++ [])));
        puts = λ h. (let a = fits refl h in let b = put h in let d = c.puts h in omega (arith, weigh-append h s.puts []));
      };
    }

pub moved_is_group : (keeps : Keeping) (g new : Crew) (pool : List DequeId) (q s : PoolSeat) (puts : List (List ℕ)) (fit : Bool) → IsGroup keeps g → g.short ≡ false → IsEverySeat pool g.places → 0 < length pool → all_takes g.places ≡ [] →
    IsUnused q → q.number ≡ 0 → SameSeat q s → s.takes ≡ q.takes → (IsTrue fit → SameNames s.puts puts) → SameNames puts (all_puts g.places) → new ≡ record g { places = s ∷ []; short = not fit } → IsGroup keeps new
moved_is_group keeps g new pool q s puts fit k whole every some none unused first same takes fits put is = subst (IsGroup keeps) (sym is) (moved_group keeps g pool q s puts fit k whole every some none unused first same takes fits put)

-- all places but the first have higher numbers
numbered_from : (a : ℕ) (xs : List PoolSeat) (n : ℕ) → 1 ≤ a → map seat_number xs ≡ numbers a n → All (λ s. 1 ≤ s.number) xs
numbered_from a [] n some e k d lt = absurd (omega arith)
numbered_from a (x ∷ xs) zero some e k d lt = absurd (cc)
numbered_from a (x ∷ xs) (suc n) some e zero d lt = let f : x.number ≡ a = cc in omega arith
numbered_from a (x ∷ xs) (suc n) some e (suc k) d lt = let f : map seat_number xs ≡ numbers (a + 1) n = cc in numbered_from (a + 1) xs n (omega arith) f k d (omega arith)

pub others_numbered : (xs : List PoolSeat) (n : ℕ) → map seat_number xs ≡ numbers 0 n → All (λ s. 1 ≤ s.number) (remove xs 0)
others_numbered [] n e k d lt = absurd (omega arith)
others_numbered (x ∷ xs) zero e k d lt = absurd (cc)
others_numbered (x ∷ xs) (suc n) e k d lt = let f : map seat_number xs ≡ numbers (0 + 1) n = cc in numbered_from (0 + 1) xs n (omega arith) f k d lt

-- the first place with the others
pub first_and_others : (xs : List PoolSeat) (x : PoolSeat) → 0 < length xs → x ≡ slice_index_or xs 0 x → x ∷ remove xs 0 ≡ xs
first_and_others [] x some e = absurd (omega arith)
first_and_others (y ∷ ys) x some e = ap (λ (z : PoolSeat). z ∷ ys) e
