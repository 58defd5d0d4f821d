use Rattle.std.proofs.Common.{inl, inr}
use Rattle.crp_callers.proofs.texts.spelled_or_faulty.Goals as goal

pub returns-clause-faulty : goal.returns-clause-faulty
returns-clause-faulty c = λ text unspelled. elim (c.a_list_or_a_fault.ensures text) [ inl list ↦ absurd (unspelled list.0 list.1) | inr fault ↦ fault ]

pub returns-clause-spelled : goal.returns-clause-spelled
returns-clause-spelled c = λ text faultless. elim (c.a_list_or_a_fault.ensures text) [ inl list ↦ list | inr fault ↦ absurd (faultless fault.0 fault.1) ]
