use Rattle.std.proofs.Common.{arith, ◌≡◌, ◌+◌, true, false, suc, drop, Some, slice_get, slice_index, slice_index_or, sym, ap, ◌∙◌, refl}
use Rattle.std.proofs.lemmas.Option.{same_Some, slice_get-get_or}
use Rattle.crp_prices.specs.declared.job.MarkedJob.{MarkedJob}
use Rattle.crp_prices.specs.Columns.{from_on}
use Rattle.crp_prices.specs.Tables.{own_jobs}
use Rattle.crp_prices.proofs.Starts.{Placed, placed}
use Rattle.crp_prices.proofs.Filling.{no_job}
use Rattle.crp_prices.proofs.table.begin_of.Goals as goal

pub bounds-pass-job : goal.bounds-pass-job
bounds-pass-job c =
    let here : slice_get c.args.pass.now.jobs.now c.args.index ≡ Some (slice_index_or c.args.pass.now.jobs.now c.args.index no_job) = slice_get-get_or c.args.pass.now.jobs.now c.args.index no_job c.requires.index in
    let p = placed c.args.pass.now.jobs.now c.args.pass.now.starts c.args.index (slice_index_or c.args.pass.now.jobs.now c.args.index no_job) c.requires.ready.readable c.requires.ready.starts here in
    omega (arith, p.soon, p.ranks)

pub returns-then-job-clause-begins : goal.returns-then-job-clause-begins
returns-then-job-clause-begins c x here =
    let same : slice_index_or c.args.pass.now.jobs.now c.args.index no_job ≡ x = same_Some (slice_index_or c.args.pass.now.jobs.now c.args.index no_job) x (sym (slice_get-get_or c.args.pass.now.jobs.now c.args.index no_job c.requires.index) ∙ here) in
    let p : Placed c.args.pass.now.jobs.now c.args.pass.now.starts c.args.index x = placed c.args.pass.now.jobs.now c.args.pass.now.starts c.args.index x c.requires.ready.readable c.requires.ready.starts here in
    let turn : (slice_index_or c.args.pass.now.jobs.now c.args.index no_job).turn ≡ x.turn = ap (λ (y : MarkedJob). y.turn) same in
    let later : x.is_later ≡ true = ap (λ (y : MarkedJob). y.is_later) (sym same) ∙ c.if-job.true in
    let own : own_jobs c.args.pass.now.jobs.now c.args.index x ≡ from_on x.turn c.args.pass.now.jobs.now = rw later refl in
    ap (λ n. drop (slice_index c.args.pass.now.starts n) c.args.pass.now.jobs.now) turn ∙ c.requires.ready.starts.begins x.turn (omega (arith, p.soon, p.ranks)) ∙ sym own

pub returns-then-job-clause-after : goal.returns-then-job-clause-after
returns-then-job-clause-after c x here =
    let same : slice_index_or c.args.pass.now.jobs.now c.args.index no_job ≡ x = same_Some (slice_index_or c.args.pass.now.jobs.now c.args.index no_job) x (sym (slice_get-get_or c.args.pass.now.jobs.now c.args.index no_job c.requires.index) ∙ here) in
    let turn : (slice_index_or c.args.pass.now.jobs.now c.args.index no_job).turn ≡ x.turn = ap (λ (y : MarkedJob). y.turn) same in
    omega (arith, ap (slice_index c.args.pass.now.starts) turn)

pub returns-then-job-clause-before : goal.returns-then-job-clause-before
returns-then-job-clause-before c x here =
    let same : slice_index_or c.args.pass.now.jobs.now c.args.index no_job ≡ x = same_Some (slice_index_or c.args.pass.now.jobs.now c.args.index no_job) x (sym (slice_get-get_or c.args.pass.now.jobs.now c.args.index no_job c.requires.index) ∙ here) in
    let p : Placed c.args.pass.now.jobs.now c.args.pass.now.starts c.args.index x = placed c.args.pass.now.jobs.now c.args.pass.now.starts c.args.index x c.requires.ready.readable c.requires.ready.starts here in
    let turn : (slice_index_or c.args.pass.now.jobs.now c.args.index no_job).turn ≡ x.turn = ap (λ (y : MarkedJob). y.turn) same in
    omega (arith, ap (slice_index c.args.pass.now.starts) turn, p.after, p.before)

pub returns-else-job-clause-begins : goal.returns-else-job-clause-begins
returns-else-job-clause-begins c x here =
    let same : slice_index_or c.args.pass.now.jobs.now c.args.index no_job ≡ x = same_Some (slice_index_or c.args.pass.now.jobs.now c.args.index no_job) x (sym (slice_get-get_or c.args.pass.now.jobs.now c.args.index no_job c.requires.index) ∙ here) in
    let first : x.is_later ≡ false = ap (λ (y : MarkedJob). y.is_later) (sym same) ∙ c.if-job.false in
    let own : own_jobs c.args.pass.now.jobs.now c.args.index x ≡ drop (suc c.args.index) c.args.pass.now.jobs.now = rw first refl in
    let next : c.args.index + 1 ≡ suc c.args.index = omega arith in
    ap (λ n. drop n c.args.pass.now.jobs.now) next ∙ sym own

pub returns-else-job-clause-after : goal.returns-else-job-clause-after
returns-else-job-clause-after c x here =
    let p : Placed c.args.pass.now.jobs.now c.args.pass.now.starts c.args.index x = placed c.args.pass.now.jobs.now c.args.pass.now.starts c.args.index x c.requires.ready.readable c.requires.ready.starts here in
    omega (arith, p.after)

pub returns-else-job-clause-before : goal.returns-else-job-clause-before
returns-else-job-clause-before c x here =
    let p : Placed c.args.pass.now.jobs.now c.args.pass.now.starts c.args.index x = placed c.args.pass.now.jobs.now c.args.pass.now.starts c.args.index x c.requires.ready.readable c.requires.ready.starts here in
    omega (arith, p.before)
