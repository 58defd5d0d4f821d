use Rattle.std.proofs.Common.{sym, subst}
use Rattle.std.specs.Str.{IsUtf8}
use Rattle.crp_json.proofs.Ascii.{printed_text}
use Rattle.crp_json.proofs.members.push_bay.Goals as goal

pub unreachable-requires : goal.unreachable-requires
unreachable-requires c =
    c.in_default.ensures.cases.0 (subst IsUtf8 (sym c.block.ensures.value) (printed_text c.args.bay.now.block c.block.ensures.named.printed))
