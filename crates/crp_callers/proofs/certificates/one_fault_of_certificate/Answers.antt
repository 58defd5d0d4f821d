use Rattle.std.proofs.Common.{inl, inr}
use Rattle.crp_callers.proofs.certificates.one_fault_of_certificate.Goals as goal

pub returns : goal.returns
returns c = λ bytes no_script. elim (c.script_or_fault.ensures.some bytes) [
  | inl (script, is) ↦ absurd (no_script script is)
  | inr (fault, first) ↦ (fault, first, λ other also. c.script_or_fault.ensures.one bytes other fault also first)
]
