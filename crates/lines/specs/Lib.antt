-- What a line of a text of calls asks for: its words, its numbers, its HEX, and the table of lines.
pub mod Words
pub mod Numbers
pub mod Hex
pub mod Lines
