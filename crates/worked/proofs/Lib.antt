-- The proofs of the statements in specs/: computed, or by the theorems of crate demands.
pub mod Example
pub mod ProfileCases
pub mod ClockBackCases
pub mod RepeatsCases
pub mod ReadoutCases
pub mod Full
pub mod MakersCases
pub mod DisplayCases
