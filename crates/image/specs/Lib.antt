-- Document 01's configuration image: its entries as bytes, the whole image, the laws of the code's trait of entries, the answers, and what is proved of them. The rule of each entry and the check are in crate settings.
pub mod Entries
pub mod Image
pub mod Widths
pub mod Answers
pub mod Laws
