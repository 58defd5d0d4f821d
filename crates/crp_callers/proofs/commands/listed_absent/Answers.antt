use Rattle.std.proofs.Common.{Some, refl, ap}
use Rattle.crp_commands.specs.Absent.{AbsentSeen}
use Rattle.crp_callers.proofs.WrittenTexts.{absent_listed}
use Rattle.crp_callers.proofs.commands.listed_absent.Goals as goal

pub returns : goal.returns
returns c =
    let text = c.absent.new.out.bytes.items in
    let seen : AbsentSeen = record {
      yard = record { given = Some c.args.list.now; before = 0; after = 0 };
      movins = record { given = Some c.args.message.now; before = 0; after = 0 };
      out = record { held = Some c.new-out.result.bytes.items; holds = Some text; before = c.new-out.result.failed; after = c.absent.new.out.failed };
    } in
    absent_listed c.args.settings.now seen c.args.list.now c.args.message.now text refl refl (record { held = ap Some c.new-out.ensures.bytes; holds = refl }) c.in_ok-absent.ensures.1
