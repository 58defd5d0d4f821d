-- The bytes so far lead to the head as it stands.
use Rattle.std.proofs.Common.{List, ℕ, ◌++◌, take}
use Rattle.crp_cert.specs.HeadsFed.{IsInHead}
use Rattle.crp_cert.proofs.open_head.OpenHead.read.Given as goal

abbrev pub invariant-loop-i : goal.invariant-loop-i
invariant-loop-i l = (before : List ℕ) → IsInHead before l.fn.self → IsInHead (before ++ take l.i l.bytes) l.head
