pub mod Members
pub mod Waiters
