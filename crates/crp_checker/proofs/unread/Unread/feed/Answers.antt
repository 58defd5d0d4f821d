use Rattle.std.proofs.Common.{◌≡◌, ◌+◌, ◌-◌, ◌≤◌, ℕ, List, true, false, length, take, drop, inl, arith, ap}
use Rattle.crp_checker.proofs.Taken.{range_taken, range_length, front_taken}
use Rattle.crp_checker.proofs.unread.Unread.feed.Goals as goal

pub returns-in_ok-feed-in-Some : goal.returns-in_ok-feed-in-Some
returns-in_ok-feed-in-Some c =
    let u = c.args.self.now in
    let xs : List ℕ = c.deref.result.now in
    let most : ℕ = c.min-most.result in
    let n : ℕ = c.in-Some.n in
    let within : u.taken + most ≤ length xs = omega (arith, c.requires.some.0, c.min-most.ensures, c.len.ensures, ap length c.deref.ensures.value) in
    let room : most ≤ u.room = omega (arith, c.min-most.ensures) in
    let le : n ≤ most = omega (arith, c.in-Some.ensures.within, range_length xs u.taken most within) in
    record {
      fed = (
        take n (take (u.taken + most - u.taken) (drop u.taken xs)),
        λ known left is. front_taken known u xs left most n c.deref.ensures.value within room le is,
        record { read = λ wanted bytes has. c.in_ok-feed-in-Some.ensures.read wanted bytes has; on = λ e. let f : ◌≡◌ false true = e in cc; ended = λ e. inl (λ bytes un. c.in-Some.ensures.ended bytes un) },
      );
    }

pub returns-in_ok-feed-in-None : goal.returns-in_ok-feed-in-None
returns-in_ok-feed-in-None c =
    let u = c.args.self.now in
    let xs : List ℕ = c.deref.result.now in
    let most : ℕ = c.min-most.result in
    let within : u.taken + most ≤ length xs = omega (arith, c.requires.some.0, c.min-most.ensures, c.len.ensures, ap length c.deref.ensures.value) in
    let room : most ≤ u.room = omega (arith, c.min-most.ensures) in
    let some : 1 ≤ length (take (u.taken + most - u.taken) (drop u.taken xs)) = omega (arith, c.requires.some.0, c.requires.some.1, c.min-most.ensures, c.len.ensures, range_length xs u.taken most within) in
    record {
      fed = (
        take (u.taken + most - u.taken) (drop u.taken xs),
        λ known left is. range_taken known u xs left most c.deref.ensures.value within room is,
        record { read = λ wanted bytes has. c.in_ok-feed-in-None.ensures.read wanted bytes has; on = λ e. (some, λ bytes un. c.in-None.ensures.on bytes un); ended = λ e. let f : ◌≡◌ true false = e in cc },
      );
    }
