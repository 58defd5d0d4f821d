use Rattle.std.proofs.Common.{◌∙◌, subst}
use Rattle.std.specs.Io.KnownBytes.{Appends}
use Rattle.crp_plan.specs.Devices.{AppendsPart}
use Rattle.crp_cert.proofs.writing.write_first.Goals as goal

pub returns-in_err-write_text-clause-part : goal.returns-in_err-write_text-clause-part
returns-in_err-write_text-clause-part g c failed = subst (AppendsPart _ _) (c.deref.ensures.value ∙ c.in_ok-text.ensures) c.in_err-write_text.ensures.part

pub returns-clause-all : goal.returns-clause-all
returns-clause-all g c = subst (Appends _ _) (c.deref.ensures.value ∙ c.in_ok-text.ensures) c.in_ok-write_text.ensures.all
