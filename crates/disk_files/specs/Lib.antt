pub mod Names
pub mod Silence
