-- What a call is answered: texts by value, numbers in letters, what is wrong with a line, the line of each answer; and what is proved of them.
pub mod Texts
pub mod Numbers
pub mod Errors
pub mod Answers
pub mod Laws
