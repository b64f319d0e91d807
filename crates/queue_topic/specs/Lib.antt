pub mod Items
pub mod Listening
