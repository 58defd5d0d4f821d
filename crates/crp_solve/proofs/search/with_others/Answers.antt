use Rattle.std.proofs.Common.{◌≡◌, ◌∷◌, [], rules, arith}
use Rattle.crp_solve.proofs.Halves.{only_worker}
use Rattle.crp_solve.proofs.search.with_others.Goals as goal

pub returns-then-first-clause-all : goal.returns-then-first-clause-all
returns-then-first-clause-all g c =
    let one : c.push.new.self.items ≡ c.args.first ∷ [] = search rules in
    only_worker c.args.common.now.of.key c.args.common.now.of c.args.left c.args.pool c.args.first c.push.new.self.items one c.requires.start

pub returns-clause-count : goal.returns-clause-count
returns-clause-count g c = (let n = c.joined.ensures.count in let m = c.in_ok-room.ensures.count_is in let u = c.useful-count.ensures in omega arith)
