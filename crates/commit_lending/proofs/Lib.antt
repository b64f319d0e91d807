pub mod Sets
pub mod Tokens
