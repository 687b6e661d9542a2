pub mod RequestLemmas
pub mod PacketLemmas
pub mod ServeLemmas
