mod Descriptors
mod Pieces
mod Readings
mod Tables
