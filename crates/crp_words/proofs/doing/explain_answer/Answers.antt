use Rattle.crp_words.proofs.doing.explain_answer.Goals as goal

pub returns-in-Err : goal.returns-in-Err
returns-in-Err g c = rw c.in-Err.is c.explain_of.ensures
