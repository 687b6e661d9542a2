mod Words
pub mod Agreeing
pub mod MessageLoop
pub mod PduLoop
pub mod Codec
pub mod Encoded
pub mod Refused
pub mod Decided
pub mod Exact
pub mod Walking
pub mod Adding
pub mod Limited
