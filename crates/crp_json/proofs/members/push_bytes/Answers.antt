use Rattle.std.proofs.Common.{◌∙◌, List, subst}
use Rattle.json.specs.Token.{Token}
use Rattle.crp_json.specs.Adding.{Adds}
use Rattle.crp_json.proofs.Naming.{as_text, as_digits}
use Rattle.crp_json.proofs.members.push_bytes.Goals as goal

pub returns-in-Ok : goal.returns-in-Ok
returns-in-Ok c =
    let cases = c.in-Ok.ensures.cases in
    subst (λ (ts : List Token). Adds c.push_text.result c.args.out.now c.push_text.new.out ts) (as_text c.args.name.now c.args.hex_name.now c.args.bytes.now _ cases.0 cases.1) c.push_text.ensures

pub returns-in_ok-digits-in-Err : goal.returns-in_ok-digits-in-Err
returns-in_ok-digits-in-Err c =
    subst (λ (ts : List Token). Adds c.push_text-in-Err.result c.args.out.now c.push_text-in-Err.new.out ts)
    (as_digits c.args.name.now c.args.hex_name.now c.args.bytes.now _ (c.as_str.ensures.value ∙ c.in_ok-digits-in-Err.ensures) c.in-Err.ensures.cases.0) c.push_text-in-Err.ensures
