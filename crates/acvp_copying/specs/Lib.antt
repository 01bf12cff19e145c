pub mod Deeds
pub mod Copies
pub mod Replacements
