-- The cells of a log, what is left of a log that was cleaned, and how it lies in files.
pub mod Cells
pub mod Cleaning
pub mod Kept
pub mod Layout
pub mod Released
pub mod Sessions
