pub mod Counting
pub mod Sending
pub mod Hearing
pub mod Running
pub mod Waiting
