mod Hearing
mod Rows
