use Rattle.std.proofs.Common.{◌∙◌, ap}
use Rattle.crp_separated.specs.Inputs.{with_separator}
use Rattle.crp_commands.proofs.following.made_of.Goals as goal

pub returns-clause-list : goal.returns-clause-list
returns-clause-list c = λ wanted. (c.in_ok-left.left.items, c.in_ok-left.ensures wanted, c.in_ok-list.ensures)

pub returns-clause-table : goal.returns-clause-table
returns-clause-table c = c.in_ok-table.ensures ∙ ap (with_separator c.args.settings.now.separator) c.in_ok-shown.ensures

pub list_if-requires : goal.list_if-requires
list_if-requires c = c.choose_part-followed.ensures.followed c.args.input.now.yard c.requires.followed.0 c.requires.followed.1

pub table_for-requires : goal.table_for-requires
table_for-requires c = c.choose_part-followed.ensures.few c.requires.few

pub returns-clause-followed : goal.returns-clause-followed
returns-clause-followed c = c.choose_part-followed.ensures.followed c.args.input.now.yard c.requires.followed.0 c.requires.followed.1
