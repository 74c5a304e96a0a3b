pub mod Cbc
