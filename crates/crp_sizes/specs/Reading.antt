-- What a fault says of a source.
use Rattle.std.specs.Prelude.{◌<◌, ℕ, List, length, Option, IfSome}
use Rattle.crp_plan.specs.Devices.{HasFailed}
use Rattle.crp_sizes.specs.Fields.{max_bytes}
use Rattle.crp_sizes.specs.Fields.{IsTextOf}
use Rattle.crp_sizes.specs.declared.fault.SizesFault.{SizesFault}
use Rattle.crp_sizes.specs.declared.fault.SizesFault.TheVariants.{Header, Fields, Digits, Heights, Twice, TooLarge, Read, Memory}
use Rattle.crp_sizes.specs.Faults.{IsFirstFault}

-- the bytes that the source had are refused with this fault
abbrev pub IsRefusedText : Option (List ℕ) → SizesFault → Type 0
IsRefusedText given fault = (text : List ℕ) × IsTextOf given text × IsFirstFault text fault

-- what a fault says of a source that had these bytes, with its count of failures before and after: that it has failed, that it had too many
-- bytes, lack of memory, or the fault of its bytes
abbrev pub ReadingFailsWith : Option (List ℕ) → ℕ → ℕ → SizesFault → Type 0
ReadingFailsWith given before after Read = HasFailed before after
ReadingFailsWith given before after TooLarge = IfSome given (λ bytes. max_bytes < length bytes)
ReadingFailsWith given before after Memory = Unit {0}
ReadingFailsWith given before after (Header n) = IsRefusedText given (Header n)
ReadingFailsWith given before after (Fields n) = IsRefusedText given (Fields n)
ReadingFailsWith given before after (Digits n) = IsRefusedText given (Digits n)
ReadingFailsWith given before after (Heights n) = IsRefusedText given (Heights n)
ReadingFailsWith given before after (Twice n) = IsRefusedText given (Twice n)

-- so many reads fail besides those that are passed over: one where the fault states a failed read
abbrev pub failures_of_sizes : SizesFault → ℕ
failures_of_sizes Read = 1
failures_of_sizes fault = 0
