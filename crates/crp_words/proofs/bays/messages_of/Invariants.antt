-- The references so far.
use Rattle.std.proofs.Common.{◌≡◌, Bor, List, ℕ, map, take}
use Rattle.crp_words.proofs.bays.messages_of.Given as goal

abbrev pub invariant-loop-text : goal.invariant-loop-text
invariant-loop-text l = l.messages.items ≡ map (λ (v : Bor (List ℕ)). v.now) (take l.text-index l.texts)
