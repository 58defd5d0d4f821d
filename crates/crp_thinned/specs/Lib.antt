pub use Rattle.crp_plan.specs.Rows
pub use Rattle.crp_plan.specs.Bay
pub use Rattle.crp_bay.specs.Positions
pub use Rattle.crp_bounds.specs.Bounds
pub mod Tree
pub mod Hindering
pub mod Thinned
pub mod Missing
