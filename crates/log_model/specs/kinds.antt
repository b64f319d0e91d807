-- How a resource of each kind is read off its cells, and what it decides.
pub mod Deciding
pub mod KindEffects
pub mod LawfulRows
pub mod PlainRanges
pub mod Reading
pub mod Shows
