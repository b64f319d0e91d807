pub mod Answers
pub mod Holding
pub mod Listing
pub mod Release
