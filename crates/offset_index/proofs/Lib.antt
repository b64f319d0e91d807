pub mod Halving
pub mod Rising
