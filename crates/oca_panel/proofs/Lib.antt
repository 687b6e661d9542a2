mod FlightLemmas
mod OwnLemmas
pub mod RequestLemmas
mod WalkLemmas
mod ProbeLemmas
