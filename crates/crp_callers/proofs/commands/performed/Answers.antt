use Rattle.std.proofs.Common.{Some, refl, ap}
use Rattle.crp_callers.proofs.Reporting.{command_reported}
use Rattle.crp_callers.proofs.commands.performed.Goals as goal

pub returns : goal.returns
returns g c =
    command_reported c.args.command.now c.in_ok-perform.field-0 c.args.bytes.now c.perform.new.writer.bytes.items _
    (record { given = refl; held = ap Some c.new-out.ensures.bytes; holds = refl }) c.in_ok-perform.ensures.done.0
