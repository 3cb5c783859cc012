-- Laws of numbers and blanks as they are read.
mod Digits
mod Numbers
mod Blanks
mod Several
