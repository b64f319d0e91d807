pub mod CellLaws
pub mod CellRanges
pub mod Places
pub mod TextLemmas
