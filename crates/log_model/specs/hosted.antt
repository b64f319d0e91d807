-- The same log over a machine that is known by its decision.
pub mod Hosted
pub mod Machines
pub mod OneByOne
pub mod Parts
pub mod PlainMachine
pub mod Sound
