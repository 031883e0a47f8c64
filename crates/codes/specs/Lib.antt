pub mod Capped
pub mod CodesAndCharacters
