-- What admission and the plain step do, of whatever log.
pub mod Examples
pub mod OneSession
pub mod RowEffects
pub mod Timely
pub mod Tracks
