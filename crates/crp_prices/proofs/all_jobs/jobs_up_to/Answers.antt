use Rattle.std.proofs.Common.{arith, ◌≡◌, ℕ, ◌++◌, List, [], sym, ap, ◌∙◌, subst, slice_get}
use Rattle.crp_plan.specs.Bay.{Position}
use Rattle.crp_bay.proofs.Reaching.{reached_ordered, reached_sound, reached_next}
use Rattle.crp_prices.specs.Pass.{AreJobs}
use Rattle.crp_prices.specs.AllJobs.{first_jobs, holder, jobs_of}
use Rattle.crp_prices.proofs.Complete.{jobs_are}
use Rattle.crp_prices.proofs.Listing.{turn_added, turns_done, holder_place, few_stand, few_added, readable}
use Rattle.crp_prices.proofs.all_jobs.jobs_up_to.Goals as goal

pub overflow_add-turn-end : goal.overflow_add-turn-end
overflow_add-turn-end c = omega (arith, reached_ordered c.args.position.now.place c.ordered-ordered.ensures.reached, c.ordered-ordered.ensures.value)

pub loop-turn-preserved : goal.loop-turn-preserved
loop-turn-preserved c =
    let s : Position = c.args.position.now.place in
    let stack : List ℕ = c.stack_of.result.1.now in
    let held : holder c.loop-turn.turn s.stacks ≡ stack =
    holder_place c.loop-turn.turn s.stacks stack (ap (slice_get s.stacks) (sym c.stack_of.ensures.index) ∙ c.stack_of.ensures.value) in
    record {
      few = omega (
        arith,
        c.loop-turn.invariant.few,
        few_added s c.args.most c.loop-turn.turn stack c.ordered-ordered.result c.loop-turn.jobs.items c.push_later.new.jobs.items c.push_first.new.jobs.items
            (c.in_ok-push_later.ensures s (λ rank lt. c.turns_of-turns.ensures rank lt)) c.in_ok-push_first.ensures,
        c.stack_of.ensures.low,
        c.requires,
      );
      are = turn_added s c.args.most c.loop-turn.turn stack c.loop-turn.jobs.items c.push_later.new.jobs.items c.push_first.new.jobs.items (jobs_of s c.args.most)
          (omega (arith, c.ordered-ordered.ensures.value)) (c.in_ok-push_later.ensures s (λ rank lt. c.turns_of-turns.ensures rank lt))
          (c.in_ok-push_first.ensures ∙ ap (λ n. c.push_later.new.jobs.items ++ first_jobs n c.loop-turn.turn [] stack) c.ordered-ordered.ensures.value) held c.loop-turn.invariant.are;
    }

pub returns-clause-jobs : goal.returns-clause-jobs
returns-clause-jobs c =
    let s : Position = c.args.position.now.place in
    let e : c.loop-turn.jobs.items ≡ jobs_of s c.args.most =
    turns_done s c.args.most c.loop-turn.turn c.loop-turn.jobs.items (jobs_of s c.args.most) (omega (arith, c.ordered-ordered.ensures.value)) c.loop-turn.invariant.are in
    subst (AreJobs s) (sym e) (jobs_are s c.args.most (reached_sound s c.ordered-ordered.ensures.reached) (λ x some. omega (arith, few_stand s c.ordered-ordered.ensures.reached x some, c.requires)))

pub returns-clause-readable : goal.returns-clause-readable
returns-clause-readable c =
    let s : Position = c.args.position.now.place in
    readable s c.loop-turn.jobs.items c.ordered-ordered.ensures.reached (returns-clause-jobs c) (omega (
      arith,
      c.loop-turn.invariant.few,
      reached_ordered s c.ordered-ordered.ensures.reached,
      c.ordered-ordered.ensures.value,
      reached_next s c.ordered-ordered.ensures.reached,
    ))
