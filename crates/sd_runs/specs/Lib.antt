pub mod Kept
pub mod Calls
pub mod Infallible
pub mod Marks
pub mod Laws
