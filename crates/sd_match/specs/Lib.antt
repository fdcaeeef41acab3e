pub mod Places
pub mod Pairs
pub mod Refusals
pub mod Tables
pub mod PlainPairs
pub mod PlainSpots
