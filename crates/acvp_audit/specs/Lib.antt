pub mod Read
pub mod Wrong
pub mod Checked
pub mod Private
