pub mod Benches
pub mod Desks
pub mod Machines
pub mod Tellers
