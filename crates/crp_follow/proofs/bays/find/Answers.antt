use Rattle.crp_follow.proofs.Named.{found_there, found_nowhere}
use Rattle.crp_follow.proofs.bays.find.Goals as goal

pub returns-clause-there : goal.returns-clause-there
returns-clause-there c = found_there c.args.yard.now c.args.bay.now c.args.names.now.keys c.get_index_of.result c.requires c.get_index_of.ensures.index

pub returns-clause-none : goal.returns-clause-none
returns-clause-none c = found_nowhere c.args.yard.now c.args.bay.now c.args.names.now.keys c.get_index_of.result c.requires c.get_index_of.ensures.found
