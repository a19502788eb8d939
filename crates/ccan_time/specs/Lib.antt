pub mod Bits
pub mod Crc
pub mod Stuffing
pub mod FrameBits
pub mod Transmitter
pub mod BitTime
pub mod BetweenFrames
