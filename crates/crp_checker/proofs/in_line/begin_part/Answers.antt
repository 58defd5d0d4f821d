use Rattle.std.proofs.Common.{[], sym, subst}
use Rattle.std.proofs.lemmas.List.{append-nil}
use Rattle.crp_plan.specs.Bay.{IsAt}
use Rattle.crp_cert.specs.ScriptFaults.{BeginsWithParts}
use Rattle.crp_checker.specs.Openings.{named_line}
use Rattle.crp_checker.specs.Refusals.{need_in}
use Rattle.crp_checker.specs.Lines.{LineIs}
use Rattle.crp_checker.proofs.in_line.begin_part.Goals as goal

pub returns : goal.returns
returns c wanted bytes script line are begins =
    let name = c.args.name in
    record {
      script = script;
      line = line;
      place = c.in-Some.place.place;
      symbols = [];
      are = are;
      begins = subst (BeginsWithParts bytes script.head script.parts line) (sym (append-nil (named_line name))) begins;
      short = c.requires.0;
      is_at = subst (λ p. IsAt p name c.in-Some.place.place) are.problem_is c.in-Some.ensures.at;
      one_line = tt;
      kept_is = subst (λ n. LineIs (need_in script) script.head.version (record { path = n; place = c.in-Some.place.place }) [] c.in_ok-line.line) c.rows.ensures.value (c.in_ok-line.ensures (need_in script) script.head.version);
    }
