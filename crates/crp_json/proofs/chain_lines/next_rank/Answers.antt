use Rattle.crp_json.proofs.ChainLines.{no_rank, none_follow, rank_shorter, rank_takes}
use Rattle.crp_json.proofs.chain_lines.next_rank.Goals as goal

pub returns-in_default-clause-none : goal.returns-in_default-clause-none
returns-in_default-clause-none c = λ some. no_rank c.args.bytes.now some c.in_default.ensures

pub returns-clause-found : goal.returns-clause-found
returns-clause-found c = rank_takes c.args.bytes.now c.in-Some.rank c.in-Some.rest.now c.in-Some.ensures

pub returns-clause-shorter : goal.returns-clause-shorter
returns-clause-shorter c = rank_shorter c.args.bytes.now c.in-Some.rank c.in-Some.rest.now c.in-Some.ensures

pub returns-clause-follow : goal.returns-clause-follow
returns-clause-follow c = none_follow c.args.bytes.now c.in-Some.rank c.in-Some.rest.now c.in-Some.ensures
