-- Lemmas on sequences and bays.
pub mod Once
pub mod RankSteps
pub mod BaySteps
pub mod SlotSteps
pub mod PlaceSteps
pub mod YardSteps
pub mod GroupSteps
pub mod SequenceSteps
pub mod StatingSteps
pub mod NamedSteps
pub mod NamedProblems
pub mod RankedSteps
pub mod StowageSteps
pub mod ChosenSteps
pub mod AbsentSteps
