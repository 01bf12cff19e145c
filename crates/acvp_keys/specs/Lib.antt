pub mod Changes
pub mod KeysFile
pub mod Private
