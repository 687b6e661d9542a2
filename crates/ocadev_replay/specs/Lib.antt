pub mod Requests
pub mod Printing
pub mod Replaying
pub mod PrivateRequests
