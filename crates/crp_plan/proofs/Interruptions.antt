-- How interruptions are counted over several calls.
use Rattle.std.proofs.Common.{◌≡◌, ℕ, ◌+◌, ◌-◌, ◌≤◌, ⊎_elim, Option, None, Some, inl, inr, subst, arith}
use Rattle.crp_plan.specs.Devices.{HasFailed, InterruptedMore, Transfers, most_interruptions}

more_and_more : (m n : ℕ) (a b c : Option ℕ) → InterruptedMore m a b → InterruptedMore n b c → InterruptedMore (m + n) a c
more_and_more m n None b c p q = tt
more_and_more m n (Some x) None c p q = absurd p
more_and_more m n (Some x) (Some y) None p q = absurd q
more_and_more m n (Some x) (Some y) (Some z) p q = omega (arith, p, q)

none_more : (a : Option ℕ) → InterruptedMore 0 a a
none_more None = tt
none_more (Some x) = omega arith

-- nothing was transferred yet
pub no_transfer : (before failures : ℕ) (interrupted : Option ℕ) → before ≤ most_interruptions → Transfers 0 before before failures failures interrupted interrupted
no_transfer before failures interrupted few =
    let zero : 0 ≡ before - before = omega arith in
    record { rises = omega arith; few = few; failed = omega arith; tried_again = inl (subst (λ n. InterruptedMore n interrupted interrupted) zero (none_more interrupted)) }

-- a transfer goes on after one that is done
pub transfers_on : {besides before mid after f g h : ℕ} {a b c : Option ℕ} → Transfers 0 before mid f g a b → Transfers besides mid after g h b c → Transfers besides before after f h a c
transfers_on {besides} {before} {mid} {after} {f} {g} {h} {a} {b} {c} first second = record {
  rises = omega (arith, first.rises, second.rises);
  few = second.few;
  failed = omega (arith, first.rises, second.rises, first.failed, second.failed);
  tried_again = ⊎_elim
      (λ p. ⊎_elim
      (λ q. inl (subst (λ n. InterruptedMore n a c) all (more_and_more (mid - before) (after - mid) a b c p q)))
      (λ q. inr (q.0, q.1, subst (λ n. InterruptedMore n a c) one_more (more_and_more (mid - before) (after - mid + 1) a b c p q.2)))
      second.tried_again)
      (λ p. absurd (omega (arith, p.0)))
      first.tried_again;
}
  where
    all : (mid - before) + (after - mid) ≡ after - before
    all = omega (arith, first.rises, second.rises)

    one_more : (mid - before) + (after - mid + 1) ≡ after - before + 1
    one_more = omega (arith, first.rises, second.rises)

-- a call of the device has failed where a transfer gave up
pub has_failed : {before after f g : ℕ} {a b : Option ℕ} → Transfers 1 before after f g a b → HasFailed f g
has_failed t = grind (arith, t.failed)
