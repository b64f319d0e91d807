-- The laws of the nine kinds.
pub mod AsPlain
pub mod Gather
pub mod KindLaws
pub mod Listings
pub mod Readings
pub mod RowLaws
pub mod RowStores
pub mod ShownCloses
pub mod ShownResources
pub mod ShownRows
pub mod Waiting
