mod Pieces
mod Lines
