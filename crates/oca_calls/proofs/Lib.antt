pub mod Behind
mod DeviceAsBox
mod Integers
mod LinkAsBox
pub mod PutLemmas
pub mod SpecsAgain
pub mod Waits
pub mod WordsAgain
