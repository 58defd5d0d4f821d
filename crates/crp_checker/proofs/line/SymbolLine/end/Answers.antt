use Rattle.std.proofs.Common.{sym, ◌∙◌}
use Rattle.crp_checker.proofs.Lines.{have_begun, none_begun, ends_unknown, ends_open, ends_trailing, ends_unfinished, ends_whole}
use Rattle.crp_checker.proofs.line.SymbolLine.end.Goals as goal

pub returns-then-self : goal.returns-then-self
returns-then-self c needs version top bytes is = ends_unknown needs version top bytes c.args.self is c.if-self.true

pub returns-then-is_some : goal.returns-then-is_some
returns-then-is_some c needs version top bytes is =
    let some = have_begun c.args.self.reasons (sym c.is_some.ensures ∙ c.if-is_some.true) in
    ends_open needs version top bytes c.args.self some.0 is c.if-self.false some.1

pub returns-then-self-2 : goal.returns-then-self-2
returns-then-self-2 c needs version top bytes is =
    ends_trailing needs version top bytes c.args.self is c.if-self.false (none_begun c.args.self.reasons (sym c.is_some.ensures ∙ c.if-is_some.false)) c.if-self-2.true

pub returns-then-not-is_paid : goal.returns-then-not-is_paid
returns-then-not-is_paid c needs version top bytes is =
    let owed = c.is_paid.ensures.some c.if-not-is_paid.true in
    ends_unfinished needs version top bytes c.args.self owed.0 owed.1 is c.if-self.false (none_begun c.args.self.reasons (sym c.is_some.ensures ∙ c.if-is_some.false)) c.if-self-2.false owed.2

pub returns : goal.returns
returns c needs version top bytes is =
    ends_whole needs version top bytes c.args.self is c.if-self.false (none_begun c.args.self.reasons (sym c.is_some.ensures ∙ c.if-is_some.false)) c.if-self-2.false (c.is_paid.ensures.none c.if-not-is_paid.false)
