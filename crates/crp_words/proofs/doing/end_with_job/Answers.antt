use Rattle.crp_words.proofs.Ended.{job_ends}
use Rattle.crp_words.proofs.doing.end_with_job.Goals as goal

pub returns : goal.returns
returns g c =
    job_ends c.args.job.now _ _ _ _ _ _ _ c.exit_of.result c.run_job-answer.result c.run_job-answer.ensures.done
    c.run_job-answer.ensures.noted c.explain_answer.ensures c.exit_of.ensures
