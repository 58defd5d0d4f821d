use Rattle.std.proofs.Common.{sym, ◌∙◌, subst}
use Rattle.std.specs.Str.{IsUtf8}
use Rattle.crp_json.proofs.Codes.{short_text, long_text}
use Rattle.crp_json.proofs.error_objects.code.Goals as goal

pub returns-then-is_short_code-clause-text : goal.returns-then-is_short_code-clause-text
returns-then-is_short_code-clause-text c =
    subst IsUtf8 (sym c.split_at.ensures.front) (short_text c.args.text.now (sym c.is_short_code.ensures ∙ c.if-is_short_code.true))

pub returns-then-is_long_code-clause-text : goal.returns-then-is_long_code-clause-text
returns-then-is_long_code-clause-text c =
    subst IsUtf8 (sym c.split_at-then-is_long_code.ensures.front) (long_text c.args.text.now (sym c.is_long_code.ensures ∙ c.if-is_long_code.true))
