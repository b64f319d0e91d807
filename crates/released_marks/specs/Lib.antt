pub mod Marks
pub mod MarksInside
