-- What an opening makes of the entries that are left.
pub mod Replay
pub mod ReplayLaws
pub mod Telling
