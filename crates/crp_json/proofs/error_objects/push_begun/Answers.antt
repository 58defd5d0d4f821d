use Rattle.std.proofs.Common.{ℕ, List, Option, sym, subst}
use Rattle.crp_json.specs.Adding.{Adds}
use Rattle.crp_json.specs.Errors.{begun_members}
use Rattle.crp_json.proofs.error_objects.push_begun.Goals as goal

pub returns-in-Some : goal.returns-in-Some
returns-in-Some c =
    subst (λ (o : Option (List ℕ)). Adds c.push_bytes.result c.args.out.now c.push_bytes.new.out (begun_members c.args.text.now o)) (sym c.in-Some.ensures) c.push_bytes.ensures
