use Rattle.std.proofs.Common.{ℕ, List, Option, sym, subst}
use Rattle.crp_json.specs.Adding.{Adds}
use Rattle.crp_json.specs.Errors.{line_members}
use Rattle.crp_json.proofs.error_objects.push_line.Goals as goal

pub returns-in-None : goal.returns-in-None
returns-in-None c =
    subst (λ (o : Option (List ℕ)). Adds c.push_bytes.result c.args.out.now c.push_bytes.new.out (line_members c.args.line.now o)) (sym c.in-None.ensures) c.push_bytes.ensures
