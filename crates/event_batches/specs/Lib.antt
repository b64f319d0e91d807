pub mod Rising
pub mod Kept
pub mod Inside
pub mod Taking
pub mod Dropping
