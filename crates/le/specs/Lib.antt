-- Little-endian numbers inside a list of bytes.
pub mod Le
pub mod Width
pub mod Laws
pub mod Parts
