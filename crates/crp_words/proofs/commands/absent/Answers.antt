use Rattle.std.proofs.lemmas.Result.{IfOk-weaker}
use Rattle.crp_words.specs.Commands.{absent_files, with_size}
use Rattle.crp_words.proofs.commands.absent.Goals as goal

pub returns : goal.returns
returns c =
    let sized = c.in_ok-sized.ensures absent_files c.in_ok-absent_files.ensures in
    IfOk-weaker c.with_orders.result _ _ (λ new more. more (with_size absent_files) sized) c.with_orders.ensures
