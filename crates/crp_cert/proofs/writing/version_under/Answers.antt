use Rattle.std.proofs.Common.{◌≡◌, true, List, map, refl, sym, ◌∙◌}
use Rattle.crp_plan.specs.Bay.{Problem}
use Rattle.crp_cert.specs.declared.claim.Claim.{Claim}
use Rattle.crp_cert.specs.declared.claim.Claim.TheVariants.{AtLeast, First}
use Rattle.crp_cert.specs.declared.version.Version.TheVariants.{Three}
use Rattle.crp_tree.specs.Parts.{ProblemPart, part_of}
use Rattle.crp_cert.specs.Writing.{have_reasons, version_under}
use Rattle.crp_cert.proofs.Written.{looked_at}
use Rattle.crp_cert.proofs.writing.version_under.Goals as goal

-- with reasons it is version 3
with_reasons : (p : Problem) (claim : Claim) (parts : List ProblemPart) → have_reasons (map part_of parts) ≡ true → Three ≡ version_under p claim (map part_of parts)
with_reasons p (AtLeast least) parts e = rw e refl
with_reasons p (First least) parts e = rw e refl

pub returns-then-have_reasons : goal.returns-then-have_reasons
returns-then-have_reasons c = with_reasons c.args.problem.now c.args.claim c.args.parts.now (looked_at c.args.parts.now ∙ sym c.have_reasons.ensures ∙ c.if-have_reasons.true)

pub returns-in-AtLeast : goal.returns-in-AtLeast
returns-in-AtLeast c = rw (c.in-AtLeast.is, looked_at c.args.parts.now ∙ sym c.have_reasons.ensures ∙ c.if-have_reasons.false) c.version_of.ensures

pub returns-in-First : goal.returns-in-First
returns-in-First c = rw (c.in-First.is, looked_at c.args.parts.now ∙ sym c.have_reasons.ensures ∙ c.if-have_reasons.false) refl
