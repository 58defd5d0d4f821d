use Rattle.crp_checker.proofs.FileFed.{begun_exactly}
use Rattle.crp_checker.proofs.file_checker.FileChecker.has_begun.Goals as goal

pub returns : goal.returns
returns c file verdicts at = (at.text, at.front, begun_exactly _ at.text at.none_begun at.some_begun)
