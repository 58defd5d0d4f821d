pub use Rattle.crp_plan.specs.BayNames.{YardBay, IsYardBay}
pub mod Places
pub mod Records
pub mod Inventory
pub mod Naming
pub mod Faults
pub mod ByPlaces
pub mod Reading
pub mod Ranks
pub mod After
pub mod Text
pub mod Written
pub mod Listings
pub mod PlansByBay
