-- The batches of a session, and what a client takes of them.
pub mod Batches
pub mod Positions
pub mod Serving
