use Rattle.std.proofs.Common.{◌≡◌}
use Rattle.crp_search_tests.proofs.incumbent.threads.claim_often.Given as goal

-- the seat stays at these words, with its shares
abbrev pub invariant-loop : goal.invariant-loop
invariant-loop g l = record {
  can : (goal.iterator-loop g).can_next l.iterator';
  ends : (goal.iterator-loop g).is_finite l.iterator';
  of : l.claimant.seat.of ≡ l.shared;
  share : l.claimant.seat.view.share ≡ l.fn.seat.view.share;
}
