pub mod Arrays
pub mod Program
pub mod Texts
pub mod Watch
pub mod Words
