pub mod Cubes
pub mod Counting
pub mod Bounded
