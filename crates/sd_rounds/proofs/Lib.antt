pub mod Settling
pub mod Sweeping
