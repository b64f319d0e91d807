-- The laws of batches and clients.
pub mod Chains
pub mod Clients
pub mod Moves
pub mod Points
pub mod Turns
