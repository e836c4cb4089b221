-- What meters send by themselves (CR 4): data sets, numbers and blocks; what the code answers; and what is proved of them.
pub mod DataSets
pub mod Numbers
pub mod Blocks
pub mod Held
pub mod Answers
pub mod Laws
