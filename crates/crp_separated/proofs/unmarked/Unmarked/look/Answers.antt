use Rattle.std.proofs.Common.{◌≡◌, rules, arith, [], length}
use Rattle.std.specs.Io.KnownBytes.{Consumes}
use Rattle.crp_separated.proofs.Marks.{short_front}
use Rattle.crp_separated.proofs.unmarked.Unmarked.look.Goals as goal

pub returns-then-n-eq0-clause-keeps : goal.returns-then-n-eq0-clause-keeps
returns-then-n-eq0-clause-keeps g c =
    let size : length c.read.new.buf ≡ 1 = search rules in
    let none : c.in_ok-n.n ≡ 0 = c.if-n-eq0.true in
    let took : Consumes (g.R.Source.remaining c.args.self.now.source) (g.R.Source.remaining c.read.new.self) [] = rw none at c.in_ok-n.ensures.bytes.0 in
    rw c.requires.not_yet (short_front c.args.self.now.front.items _ _ took (c.in_ok-n.ensures.bytes.1 none (omega (arith, size))) (c.args.self.now.few c.requires.not_yet))
