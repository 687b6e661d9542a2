mod Terms
pub mod Steps
pub mod ReadBack
pub mod Understood
pub mod AskedBy
pub mod Answered
pub mod Pairs
pub mod Carried
pub mod Settled
