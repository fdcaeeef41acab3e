pub mod LinearForms
pub mod FactRows
pub mod Laws
