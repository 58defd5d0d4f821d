pub use Rattle.crp_plan.specs.Bay
pub use Rattle.crp_thinning.specs.Symbols
pub use Rattle.crp_thinning.specs.Owed
pub use Rattle.crp_row.specs.Reasons
pub mod Rests
pub mod Stages
