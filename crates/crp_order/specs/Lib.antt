pub use Rattle.crp_movins.specs.Accepted.{is_ordered, ordered_containers}
pub use Rattle.crp_yard.specs.Inventory.{Inventory, StackedBay, is_among, times, stands}
pub mod Slots
pub mod SlotDigits
pub mod Sequenced
pub mod Sequences
pub mod OfBays
pub mod BayProblems
pub mod ByRank
pub mod Groups
pub mod Alike
pub mod Absences
