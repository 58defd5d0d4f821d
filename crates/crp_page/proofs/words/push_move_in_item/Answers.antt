use Rattle.std.specs.Prelude.{codes}
use Rattle.crp_page.specs.Words.{lifted_words}
use Rattle.crp_page.proofs.Chains.{then_added}
use Rattle.crp_page.proofs.words.push_move_in_item.Goals as goal

pub returns-in_ok-extend_from_slice-in-Take : goal.returns-in_ok-extend_from_slice-in-Take
returns-in_ok-extend_from_slice-in-Take c =
    rw c.in-Take.is (then_added c.push_lifted-in-Take.result c.args.text.now.items c.extend_from_slice-in-Take.new.self.items c.push_lifted-in-Take.new.text.items (codes "<li class=\"t\">take ")
    (lifted_words c.in-Take.container c.in-Take.from) c.in_ok-extend_from_slice-in-Take.ensures.items c.push_lifted-in-Take.ensures)
