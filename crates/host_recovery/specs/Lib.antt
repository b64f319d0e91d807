pub mod Answers
pub mod Census
pub mod HostState
pub mod Logs
pub mod FileLayout
pub mod Opening
pub mod Serving
pub mod Standing
