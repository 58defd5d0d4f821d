-- Lemmas on lists of sizes, and on records and bays.
pub mod Lists
pub mod Bays
pub mod FieldSteps
pub mod CsvSteps
pub mod HeightSteps
pub mod BaySteps
pub mod SizeSteps
pub mod RowSteps
pub mod HeaderSteps
pub mod Outcomes
pub mod Cases
