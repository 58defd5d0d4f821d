-- The chains so far stand behind the first, each after a stroke.
use Rattle.std.proofs.Common.{◌≡◌, ◌++◌, codes, take}
use Rattle.std.specs.List.{flat_map}
use Rattle.crp_chains.specs.Given.{lists_of}
use Rattle.crp_thinning.specs.Symbols.{chain_text}
use Rattle.crp_commands.proofs.chain_line.push_chains.Given as goal

abbrev pub invariant-loop-chain : goal.invariant-loop-chain
invariant-loop-chain l = l.text.items ≡ l.initial.text.items ++ flat_map (λ other. codes " | " ++ chain_text other) (take l.chain-index (lists_of l.others))
