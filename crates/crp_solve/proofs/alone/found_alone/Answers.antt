use Rattle.std.proofs.Common.{◌≡◌, true, rules, sym, ◌∙◌}
use Rattle.std.proofs.lemmas.Result.{err_from_is_err_and}
use Rattle.crp_solve.proofs.Deepened.{nearer_smaller}
use Rattle.crp_solve.proofs.Stopped.{of_found}
use Rattle.crp_solve.proofs.Rising.{rising_shown, rising_more, rising_ends}
use Rattle.crp_solve.proofs.alone.found_alone.Goals as goal

pub returns-in_err-known-clause-lost : goal.returns-in_err-known-clause-lost
returns-in_err-known-clause-lost c =
    let p = err_from_is_err_and c.from_residual.result c.from_residual.ensures.1 in
    rw (p.1, p.2) (c.in_err-known.ensures.lost c.args.settings.budget)

pub next_round-requires : goal.next_round-requires
next_round-requires c = rising_shown c.args.problem.now c.args.settings c.loop-left.known c.loop-left.invariant.rising

pub known_behind-requires-clause-known : goal.known_behind-requires-clause-known
known_behind-requires-clause-known c = rising_shown c.args.problem.now c.args.settings c.loop-left.known c.loop-left.invariant.rising

pub loop-left-smaller : goal.loop-left-smaller
loop-left-smaller c =
    let p = c.args.problem.now in let known = c.loop-left.known in
    nearer_smaller p c.args.settings.budget known c.in_ok-known-2.known c.in-Some.ensures.goes_on (rising_shown p c.args.settings known c.loop-left.invariant.rising) c.in-Some.ensures.undecided c.in_ok-known-2.ensures.nearer

pub loop-left-preserved : goal.loop-left-preserved
loop-left-preserved c =
    let goes_on = of_found c.search_all-found-in-Some.result (λ f same goes_on. same ∙ goes_on) c.in_ok-known-2.ensures.stopped c.search_all-found-in-Some.ensures.never_stopped in
    record {
      rising = rising_more c.args.problem.now c.args.settings c.loop-left.known c.in_ok-known-2.known c.loop-left.invariant.rising c.in_ok-known-2.ensures.round (λ yes. absurd (let both = sym goes_on ∙ yes in cc));
      one_part = c.in_ok-known-2.ensures.one_part c.loop-left.invariant.one_part c.search_all-found-in-Some.ensures.one_part;
      goes_on = goes_on;
    }

pub returns-clause-searched : goal.returns-clause-searched
returns-clause-searched c =
    let asked : c.args.settings.deepen ≡ true = search rules in
    rising_ends c.args.problem.now c.args.settings c.loop-left.known asked c.loop-left.invariant.rising c.in_default.ensures.decided
