-- Lemmas on the lines about a fault.
pub mod Shown
pub mod LineSteps
pub mod FirstSteps
pub mod AgainSteps
pub mod CertificateSteps
