-- The laws that join a replay to the fold.
pub mod Beside
pub mod Freely
pub mod Guards
pub mod Parted
pub mod ReadOff
pub mod ReplayExamples
pub mod Replaying
pub mod Rising
pub mod Run
pub mod Shown
pub mod Tellings
pub mod WholeFold
