pub mod Contents
pub mod Files
pub mod Folder
pub mod Parse
pub mod Numbers
pub mod Rewritten
pub mod Writes
