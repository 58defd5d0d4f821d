-- What the text of a certificate spells: the problem, the bound that its parts show, a plan or none, and the parts.
use Rattle.std.specs.Prelude.{ℕ, Bool, ◌==◌, if◌then◌else◌, List, map, AllPairs, Option, Some}
use Rattle.std.specs.List.{list_all, list_any}
use Rattle.crp_plan.specs.BayNames.{YardBay}
use Rattle.crp_plan.specs.Rows.{tallest}
use Rattle.crp_plan.specs.Bay.{Problem}
use Rattle.crp_plan.specs.Plans.{ProblemPath}
use Rattle.crp_tree.specs.Names.{Precedes}
use Rattle.crp_tree.specs.Claims.{Part, Claimed, IsAccepted, names, path_in}
use Rattle.crp_tree.specs.Parts.{Certificate, part_of, claimed}
use Rattle.crp_cert.specs.declared.claim.Claim.{Claim}
use Rattle.crp_cert.specs.declared.claim.Claim.TheVariants.{AtLeast, First}
use Rattle.crp_cert.specs.declared.head.Head.{Head}
use Rattle.crp_cert.specs.declared.script.Script.{Script}
use Rattle.crp_cert.specs.declared.version.Version.{Version}
use Rattle.crp_cert.specs.declared.version.Version.TheVariants.{One, Two, Three}
use Rattle.crp_cert.specs.Script.{has_reasons, script_text}

-- each height is the largest of them
abbrev pub are_equal : List ℕ → Bool
are_equal heights = list_all (λ height. height == tallest heights) heights

-- the version in which a problem is written, where no cut has its reasons: version 1 where the rows have one height
abbrev pub version_for : Problem → Version
version_for p = if are_equal p.heights then One else Two

-- some cut of these parts has its reasons
abbrev pub have_reasons : List Part → Bool
have_reasons parts = list_any (λ part. has_reasons part.tree) parts

-- the version in which a claim of a problem with these parts is written: version 3 where some cut has its reasons; else a lower bound as the problem is,
-- and the first best plan in version 2
abbrev pub version_under : Problem → Claim → List Part → Version
version_under p (AtLeast least) parts = if have_reasons parts then Three else version_for p
version_under p (First least) parts = if have_reasons parts then Three else Two

-- the head of a version for a problem, a claim and a plan or none, under the name of a bay
abbrev pub head_for : Version → YardBay → Problem → Claim → Option ProblemPath → Head
head_for version bay p claim plan = record { version = version; bay = bay; problem = p; claim = claim; plan = path_in plan }

-- the script for a claim under the name of a bay
abbrev pub script_for : YardBay → Claimed → Script
script_for bay c = record { head = record { version = version_under c.problem (AtLeast c.lower) c.parts; bay = bay; problem = c.problem; claim = AtLeast c.lower; plan = c.plan }; parts = c.parts }

-- the script for a claim with the first best plan, under the name of a bay
abbrev pub first_script_for : YardBay → Claimed → Script
first_script_for bay c = record { head = record { version = version_under c.problem (First c.lower) c.parts; bay = bay; problem = c.problem; claim = First c.lower; plan = c.plan }; parts = c.parts }

-- the text of a certificate of a problem under a claim, with a plan or none
abbrev pub text_under : YardBay → Problem → Certificate → Claim → Option ProblemPath → List ℕ
text_under bay p cert claim plan =
    script_text (record { head = head_for (version_under p claim (map part_of cert.parts)) bay p claim plan; parts = (claimed p cert (path_in plan)).parts })

-- the text of a certificate of a problem, under the name of a bay, with a plan or none
abbrev pub certificate_text : YardBay → Problem → Certificate → Option ProblemPath → List ℕ
certificate_text bay p cert plan = script_text (script_for bay (claimed p cert (path_in plan)))

-- the text of a certificate of a problem that claims this plan to be the first best one, under the name of a bay
abbrev pub first_certificate_text : YardBay → Problem → Certificate → ProblemPath → List ℕ
first_certificate_text bay p cert plan = script_text (first_script_for bay (claimed p cert (Some plan.path)))

-- a text can spell the claim: it is accepted, and its parts rise by name
pub record CanBeSpelled (c : Claimed) : Type 0 where
  pub accepted : IsAccepted c
  pub rising : AllPairs Precedes (names c.parts)
