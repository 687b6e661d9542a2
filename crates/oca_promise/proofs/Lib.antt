pub mod Handles
pub mod Doing
pub mod Playing
pub mod Keeping
pub mod Promises
