pub mod Words
pub mod Doings
pub mod Calls
pub mod Promises
pub mod Flights
pub mod Renewals
