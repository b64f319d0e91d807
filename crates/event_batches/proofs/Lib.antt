pub mod Options
pub mod Searching
pub mod RisingLists
pub mod Queues
