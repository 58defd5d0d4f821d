pub use Rattle.crp_plan.specs.Rows
pub use Rattle.crp_plan.specs.Bay
pub use Rattle.crp_bounds.specs.Bounds
pub mod Chains
pub mod Given
pub mod Named
