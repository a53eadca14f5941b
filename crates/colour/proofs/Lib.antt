pub mod Bits
pub mod Packing
pub mod FieldBits
pub mod Xors
