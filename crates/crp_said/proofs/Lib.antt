-- Lemmas on reports and their text.
pub mod Bytes
pub mod MoveBodies
pub mod Takes
pub mod LinesSoFar
pub mod Digits
pub mod Words
pub mod FirstLine
pub mod SaidLines
pub mod Bays
pub mod CutLines
pub mod StatedMoves
pub mod OneReport
pub mod MoreLines
