-- What is proved of files as devices.
pub mod Sharing
pub mod Prepared
