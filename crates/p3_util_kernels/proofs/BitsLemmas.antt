-- Lemmas on numbers: binary digits, sums, powers, logarithms and names.
pub mod Digits
pub mod Groups
pub mod HasLogs
pub mod Logarithms
pub mod Names
pub mod Pairs
pub mod Powers
pub mod Sums
pub mod Tables
