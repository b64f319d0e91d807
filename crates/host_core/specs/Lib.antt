pub mod Answers
pub mod Batching
pub mod CoreParts
pub mod CoreState
pub mod Entering
pub mod Marking
