use Rattle.std.proofs.Common.{◌≡◌, ◌++◌, length, take}
use Rattle.crp_cert.specs.Script.{end_line}
use Rattle.crp_checker.specs.Openings.{HasNoName, IsBegunWith}
use Rattle.crp_checker.proofs.in_line.read_on.Given as goal

abbrev pub invariant-loop-i : goal.invariant-loop-i
invariant-loop-i l = record {
  findings : l.findings ≡ l.fn.findings;
  count : l.count ≡ length l.findings.names;
  begun : l.begun.items ≡ l.fn.begun.items ++ take l.i l.bytes;
  no_name : HasNoName l.findings.problem l.fn.begun.items → HasNoName l.findings.problem l.begun.items;
  no_end : (IsBegunWith l.fn.begun.items (end_line l.count) → ⊥) → IsBegunWith l.begun.items (end_line l.count) → ⊥;
}
