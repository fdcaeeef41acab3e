pub mod Zips
pub mod Rows
pub mod Renamed
