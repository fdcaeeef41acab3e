pub mod Elimination
pub mod RowSteps
pub mod DerivedRows
pub mod Answers
pub mod Values
pub mod Pruning
pub mod Laws
pub mod FirstPlaces
