mod Rows
mod Conditionals
