pub mod Deliveries
pub mod Ends
pub mod EndStates
pub mod Memory
pub mod Moments
pub mod Sockets
pub mod Stale
pub mod PrivateMoments
