-- Histories worked out, with all of their numbers, so that it is seen that the theorems of crate demands speak of something. Each statement has its proof in proofs/.
pub mod Example
pub mod ProfileCases
pub mod ClockBackCases
pub mod RepeatsCases
pub mod ReadoutCases
pub mod MakersCases
pub mod DisplayCases
