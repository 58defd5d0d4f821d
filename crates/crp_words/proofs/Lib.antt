-- Lemmas on words and their refusals.
pub mod Asking
pub mod HeightSteps
pub mod Thousandths
pub mod BayTexts
pub mod Lacking
pub mod TimeLacking
pub mod SolveLacking
pub mod AbsentLacking
pub mod CheckLacking
pub mod FollowLacking
pub mod CommandLine
pub mod Ended
