use Rattle.crp_callers.proofs.run_texts.first_lines_of_two_runs.Goals as goal

pub returns : goal.returns
returns c = c.first_lines_are_one.ensures.runs
