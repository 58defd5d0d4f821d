use Rattle.std.proofs.Common.{Option}
use Rattle.std.specs.Prelude.{IfSome}
use Rattle.std.proofs.lemmas.List.Sorted.{All-permutation}
use Rattle.crp_commands.specs.declared.apart.Found.{Found}
use Rattle.crp_commands.specs.Apart.{IsFoundIn}
use Rattle.crp_commands.proofs.apart.put_in_order.Goals as goal

pub returns : goal.returns
returns c = All-permutation (λ (found : Option Found). IfSome found (IsFoundIn c.args._block.now)) c.args.all.now.items c.sort_unstable_by_key.new.self.items c.sort_unstable_by_key.ensures.permutation c.requires
