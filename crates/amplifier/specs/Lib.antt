pub mod Channels
pub mod Knobs
