pub mod Refuting
pub mod Placing
pub mod Knowing
pub mod Giving
pub mod Closing
