pub mod TableKeys
pub mod MapLemmas
pub mod Faultless
