mod ConfigLines
mod Digits
mod ToldLines
