use Rattle.std.proofs.Common.{◌-◌, List, ℕ, [], Some, arith, refl, take, drop, length-take, length-drop}
use Rattle.crp_commands.specs.Checks.{HasChecked}
use Rattle.crp_commands.proofs.apart.found_in.Goals as goal

pub returns : goal.returns
returns c =
    let part : List ℕ = take (c.args.to - c.args.from) (drop c.args.from c.args.block.now) in
    let none : HasChecked (Some []) (Some c.new-lines.result.bytes.items) [] [] c.new-files.result 1 = record { read = c.new-files.ensures; next = refl; written = c.new-lines.ensures.bytes } in
    let new = c.in-Ok.ensures.on (Some []) [] [] none in
    let has = new.1 in
    let few = c.in-Ok.ensures.bound in
    record {
      verdicts = new.0;
      begins = c.requires.part.0;
      ends = c.requires.part.1;
      read = has.read;
      next = has.next;
      few = omega (arith, few, has.next, length-take (c.args.to - c.args.from) (drop c.args.from c.args.block.now), length-drop c.args.from c.args.block.now);
      lines = has.written;
    }
