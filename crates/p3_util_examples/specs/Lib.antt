pub mod MapCalls
pub mod Matrix
pub mod Stages
pub mod Transform
