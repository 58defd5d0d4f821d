-- The references so far.
use Rattle.std.proofs.Common.{◌≡◌, take}
use Rattle.crp_movins.proofs.loading.Loading.copy.Given as goal

abbrev pub invariant-loop-message : goal.invariant-loop-message
invariant-loop-message l = l.messages.items ≡ take l.message-index l.self.messages
