pub mod Interface
mod Texts
mod Reading
mod Packets
mod Records
mod Attempts
mod Printed
mod Items
mod Forms
mod ShownNames
mod Captures
mod ToldLines
