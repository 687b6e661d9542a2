pub mod Requests
pub mod Objects
pub mod Exchanges
pub mod PrivateExchanges
pub mod PrivateObjects
