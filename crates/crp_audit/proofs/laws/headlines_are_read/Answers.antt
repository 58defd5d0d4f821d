use Rattle.crp_audit.proofs.Readable.{spelled_as, never_misspelled, never_other_numbers}
use Rattle.crp_audit.proofs.laws.headlines_are_read.Goals as goal

pub returns : goal.returns
returns c = record { spelled = spelled_as; lines = never_misspelled; numbers = never_other_numbers }
