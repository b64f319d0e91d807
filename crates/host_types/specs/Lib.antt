pub mod CellOrder
pub mod Cells
pub mod Decision
pub mod Limits
pub mod Name
pub mod Padding
pub mod Ranges
pub mod Text
