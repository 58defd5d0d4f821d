-- Lemmas on reports that are followed.
mod Cuts
mod Pieces
mod Rows
mod OneMove
mod OneBay
mod OneText
mod Reading
mod Written
mod LinesStand
mod Outcomes
mod InYard
mod Named
mod MoveSteps
mod FollowSteps
pub mod Few
pub mod TableSteps
mod ComparingSteps
mod KeptLaws
mod Leaving
pub mod FirstMoves
mod BehindSteps
mod YardBehind
mod StoppingSteps
mod PartSteps
mod RewritingSteps
