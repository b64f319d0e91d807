pub mod Catalog
pub mod CatalogLaws
pub mod Kinds
pub mod Parts
pub mod Seen
pub mod Sorted
pub mod Steps
