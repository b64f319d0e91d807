pub mod Faults
pub mod Kinds
pub mod Lines
pub mod Operations
pub mod Parts
pub mod Printing
pub mod Reading
pub mod Tables
