use Rattle.std.proofs.Common.{◌++◌, inl, inr, refl}
use Rattle.crp_cert.specs.Text.{head_text}
use Rattle.crp_callers.proofs.certificates.heads_or_faults.Goals as goal

pub returns-clause-none : goal.returns-clause-none
returns-clause-none c = λ head rest fault is first. c.head_or_fault.ensures.apart (head_text head ++ rest) head fault (is, (rest, refl)) first

pub returns-clause-one : goal.returns-clause-one
returns-clause-one c = λ bytes no_head. elim (c.head_or_fault.ensures.some bytes) [
  | inl (head, is) ↦ absurd (no_head head is)
  | inr (fault, first) ↦ (fault, first, λ other also. c.head_or_fault.ensures.one bytes other fault also first)
]
