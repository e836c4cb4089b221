-- What the proofs of this crate share: specifications, forms and their texts, the grammar of format strings, fields of registers, the screen, numbers as they are shown, and the two steps; the cases; the laws of
-- specs/Laws.antt; that no second result fits.
pub mod Specified
pub mod FormTexts
pub mod Grammar
pub mod Registered
pub mod Screens
pub mod Numerals
pub mod NumberLaws
pub mod Pages
pub mod Cases
pub mod Laws
pub mod Unique
