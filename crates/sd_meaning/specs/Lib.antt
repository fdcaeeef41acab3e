pub mod Evaluate
pub mod Interpretation
pub mod Routine
pub mod Run
pub mod Inputs
pub mod NewFailure
pub mod Laws
