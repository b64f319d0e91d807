-- The laws of logs over any machine.
pub mod Admitted
pub mod Free
pub mod HostedExamples
pub mod HostedLogs
pub mod OfMachines
pub mod OneByOne
pub mod Parts
pub mod PlainMachines
pub mod SessionPlaces
pub mod Sounds
