pub mod Gates
pub mod SharedWord
