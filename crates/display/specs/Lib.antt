-- CR 7: what a format string means; fields of registers, dates and numbers as they are shown; the two lines and the reply; what only the code has; strings as they are written; and what is proved of them.
pub mod Formats
pub mod Fields
pub mod Numbers
pub mod Displays
pub mod Steps
pub mod Written
pub mod Cases
pub mod Laws
