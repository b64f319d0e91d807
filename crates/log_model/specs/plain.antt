-- The plain state, what an item of a log makes of it, and what is stored of the item.
pub mod Admission
pub mod Commands
pub mod Fitting
pub mod Plain
pub mod Quiet
pub mod Rows
pub mod Step
pub mod Stored
