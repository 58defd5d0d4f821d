-- The bytes so far are added.
use Rattle.std.proofs.Common.{◌≡◌, ◌++◌, take}
use Rattle.std.specs.Prelude.{flat_map}
use Rattle.crp_page.specs.Sheets.{styled_byte}
use Rattle.crp_page.proofs.sheets.push_styled.Given as goal

abbrev pub invariant-loop-byte : goal.invariant-loop-byte
invariant-loop-byte l = l.text.items ≡ l.initial.text.items ++ flat_map styled_byte (take l.byte-index l.bytes)
