pub mod Removing
pub mod Walking
