pub mod Sending
pub mod Registers
pub mod Lengths
