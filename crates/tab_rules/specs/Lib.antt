pub mod Constraints
pub mod ConstraintFlags
pub mod Verdict
