use Rattle.std.proofs.lemmas.Result.{IfOk-weaker}
use Rattle.crp_words.specs.Commands.{follow_files, with_after, with_bays, with_blocks, with_page, with_partial, with_size, with_summary}
use Rattle.crp_words.proofs.commands.follow.Goals as goal

pub returns : goal.returns
returns c =
    let ordered = c.in_ok-ordered.ensures (with_size follow_files) (c.in_ok-sized.ensures follow_files c.in_ok-follow_files.ensures) in
    let parted = c.in_ok-parted.ensures (with_bays (with_size follow_files)) ordered in
    let paged = c.in_ok-paged.ensures (with_blocks (with_bays (with_size follow_files))) parted in
    let left = c.in_ok-left.ensures (with_page (with_blocks (with_bays (with_size follow_files)))) paged in
    let early = c.in_ok-early.ensures (with_after (with_page (with_blocks (with_bays (with_size follow_files))))) left in
    let summed = c.in_ok-summed.ensures (with_partial (with_after (with_page (with_blocks (with_bays (with_size follow_files)))))) early in
    IfOk-weaker c.with_compare.result _ _ (λ new more. more (with_summary (with_partial (with_after (with_page (with_blocks (with_bays (with_size follow_files))))))) summed) c.with_compare.ensures
