pub mod Rule
pub mod Claiming
pub mod Choice
pub mod Greedily
pub mod GreedyKnown
mod NoLonger
pub mod SoFar
pub mod Closing
pub mod UnderWay
pub mod Owing
mod Digits
pub mod FirstHeld
pub mod FirstMet
