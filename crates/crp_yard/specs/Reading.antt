-- What was read of a source, and what a fault says of it.
use Rattle.std.specs.Prelude.{◌≡◌, ◌<◌, ℕ, List, length, Option, Some, None, IfSome, replicate}
use Rattle.crp_plan.specs.Devices.{HasFailed}
pub use Rattle.crp_sizes.specs.Fields.{IsTextOf}
use Rattle.crp_sizes.specs.Sizes.{YardSizes, one_size}
use Rattle.crp_yard.specs.declared.fault.YardFault.{YardFault}
use Rattle.crp_yard.specs.declared.fault.YardFault.TheVariants.{Header, Fields, Digits, Outside, PlaceTaken, Floating, StandsAlready, TooMany, Read, TooLarge, Memory}
use Rattle.crp_yard.specs.Records.{records_of, entries_of}
use Rattle.crp_yard.specs.Inventory.{Inventory, inventory_of}
use Rattle.crp_yard.specs.Faults.{fault_of_text, max_bytes}

-- the text has no fault in a yard whose bays have these sizes, and this is the inventory that its records give
pub record IsYardListOf (sizes : YardSizes) (text : List ℕ) (yard : Inventory) : Type 0 where
  pub faultless : fault_of_text sizes text ≡ None
  pub stands : yard ≡ inventory_of sizes (entries_of (records_of text))

-- the same where each bay has so many rows, and each row so many tiers
abbrev pub IsYardList : ℕ → ℕ → List ℕ → Inventory → Type 0
IsYardList rows tiers text yard = IsYardListOf (one_size (replicate rows tiers)) text yard

-- the bytes that the source had are refused with this fault
abbrev pub IsRefusedText : YardSizes → Option (List ℕ) → YardFault → Type 0
IsRefusedText sizes given fault = (text : List ℕ) × IsTextOf given text × (fault_of_text sizes text ≡ Some fault)

-- what a fault says of a source that had these bytes, with its count of failures before and after: that it has failed, that it had too many
-- bytes, lack of memory, or the fault of its bytes
abbrev pub ReadingFailsWith : YardSizes → Option (List ℕ) → ℕ → ℕ → YardFault → Type 0
ReadingFailsWith sizes given before after Read = HasFailed before after
ReadingFailsWith sizes given before after TooLarge = IfSome given (λ bytes. max_bytes < length bytes)
ReadingFailsWith sizes given before after Memory = Unit {0}
ReadingFailsWith sizes given before after (Header n) = IsRefusedText sizes given (Header n)
ReadingFailsWith sizes given before after (Fields n) = IsRefusedText sizes given (Fields n)
ReadingFailsWith sizes given before after (Digits n) = IsRefusedText sizes given (Digits n)
ReadingFailsWith sizes given before after (Outside n) = IsRefusedText sizes given (Outside n)
ReadingFailsWith sizes given before after (PlaceTaken n) = IsRefusedText sizes given (PlaceTaken n)
ReadingFailsWith sizes given before after (Floating n) = IsRefusedText sizes given (Floating n)
ReadingFailsWith sizes given before after (StandsAlready n) = IsRefusedText sizes given (StandsAlready n)
ReadingFailsWith sizes given before after (TooMany n) = IsRefusedText sizes given (TooMany n)

-- so many reads fail besides those that are passed over: one where the fault states a failed read
abbrev pub failures_of_yard : YardFault → ℕ
failures_of_yard Read = 1
failures_of_yard fault = 0
