-- The laws of a log that was cleaned.
pub mod Appends
pub mod Changes
pub mod Compactions
pub mod Entries
pub mod Growth
pub mod Indexed
pub mod Joined
pub mod Law
pub mod Markings
pub mod OfLogs
pub mod QuietGreatest
pub mod SessionFields
