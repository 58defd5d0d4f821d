-- Files as devices: what is known of them by their names, and which of a job's must be two.
pub mod Known
pub mod Held
pub mod Roles
