pub mod Tokens
pub mod Productions
