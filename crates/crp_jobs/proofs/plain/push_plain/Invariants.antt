use Rattle.std.proofs.Common.{◌≡◌, ◌≤◌, ◌++◌, length, map, take}
use Rattle.crp_jobs.specs.Found.{IsPlainText, plain}
use Rattle.crp_jobs.specs.declared.plain.TheConstants.{MOST_FOUND}
use Rattle.crp_jobs.proofs.plain.push_plain.Given as goal

-- the line stays plain, and shows as much of the text as has room
abbrev pub invariant-loop-byte : goal.invariant-loop-byte
invariant-loop-byte l =
    IsPlainText l.line.items × (length l.initial.line.items ≤ MOST_FOUND → l.line.items ≡ take MOST_FOUND (l.initial.line.items ++ map plain (take l.byte-index l.text)))
