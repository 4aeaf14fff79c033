pub mod Bits
pub mod Ones
pub mod Zeros
