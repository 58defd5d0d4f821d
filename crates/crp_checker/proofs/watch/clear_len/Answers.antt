use Rattle.std.proofs.Common.{◌≡◌, ◌≢◌, ◌+◌, ◌-◌, ℕ, false, take, drop, sym, subst, arith}
use Rattle.std.specs.List.{AllByRecursion}
use Rattle.std.proofs.Math.Seq.{take-add}
use Rattle.crp_cert.proofs.Joined.{all_both}
use Rattle.crp_checker.proofs.watch.clear_len.Goals as goal

pub loop-clear-preserved : goal.loop-clear-preserved
loop-clear-preserved c =
    let clear = c.loop-clear.clear in
    let bytes = c.args.bytes.now in
    let block : (clear + 64) - clear ≡ 64 = omega arith in
    let none : c.has_end.result ≡ false = cc in
    let rest = subst (λ n. AllByRecursion (λ b. b ≢ 10) (take n (drop clear bytes))) block (c.has_end.ensures none) in
    record {
      within = omega arith;
      clear = subst (AllByRecursion (λ b. b ≢ 10)) (sym (take-add clear 64 bytes)) (all_both (λ (b : ℕ). b ≢ 10) (take clear bytes) (take 64 (drop clear bytes)) c.loop-clear.invariant.clear rest);
    }
