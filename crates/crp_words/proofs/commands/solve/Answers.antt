use Rattle.std.proofs.lemmas.Result.{IfOk-weaker}
use Rattle.crp_words.specs.Commands.{solve_files, with_bays, with_searches, with_size}
use Rattle.crp_words.proofs.commands.solve.Goals as goal

pub returns : goal.returns
returns c =
    let sized = c.in_ok-sized.ensures solve_files c.in_ok-solve_files.ensures in
    let ordered = c.in_ok-ordered.ensures (with_size solve_files) sized in
    let searched = c.in_ok-searched.ensures (with_bays (with_size solve_files)) ordered in
    IfOk-weaker c.with_outputs.result _ _ (λ new more. more (with_searches (with_bays (with_size solve_files))) searched) c.with_outputs.ensures
