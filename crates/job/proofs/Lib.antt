pub mod Cuts
pub mod Numerals
pub mod Rows
pub mod Lasts
pub mod Escapes
pub mod Found
pub mod Pieces
pub mod Mapped
