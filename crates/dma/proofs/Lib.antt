pub mod Chain
pub mod Takes
