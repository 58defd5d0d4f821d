-- What an auditor looks at of a bay in place of what is promised: no claim about all plans is left in it, since an accepted certificate shows those.
use Rattle.std.specs.Prelude.{◌≡◌, ℕ, List, [], Some, MatchOption}
use Rattle.crp_plan.specs.Bay.{path_of}
use Rattle.crp_cert.specs.declared.script.Script.{Script}
use Rattle.crp_cert.specs.Script.{IsScriptOf}
use Rattle.crp_checker.specs.declared.verdict.Verdict.{Verdict}
use Rattle.crp_said.specs.declared.said.Said.{Said}
use Rattle.crp_said.specs.declared.said.Said.TheVariants.{Optimal, First, NoPlan, Between, Outside}
use Rattle.crp_audit.specs.Headline.{Handed, Reported, problem_in, PrintsPlan, IsBorneOut, IsShownOf}

-- the certificate's plan goes to these rows
abbrev pub StatesPlan : List ℕ → List ℕ → Type 0
StatesPlan text path = (script : Script) × IsScriptOf text script × (script.head.plan ≡ Some path)

-- the printed lines are those of a plan with as many relocations as is said, and where it is said to be the first it is the certificate's plan; and
-- where no plan is said there are no lines
abbrev pub LooksSo : Handed → Reported → Said → Type 0
LooksSo h b (Optimal count) = PrintsPlan h b count
LooksSo h b (First count) = (prints : PrintsPlan h b count) × StatesPlan b.certificate (path_of prints.moves)
LooksSo h b NoPlan = b.lines ≡ []
LooksSo h b (Between lower upper why) = MatchOption upper (b.lines ≡ []) (PrintsPlan h b)
LooksSo h b (Outside count) = ⊥

-- so it looks, and the certificate is accepted, with a verdict that bears out what is said
pub record LooksTrue (h : Handed) (b : Reported) : Type 0 where
  pub so : LooksSo h b b.said
  pub certified : Verdict
  pub borne_out : IsBorneOut h b certified
  pub shown : IsShownOf b.bay.0 (problem_in h b) b.certificate certified
