pub mod Clients
pub mod Errand
pub mod Incoming
pub mod Outgoing
pub mod Stage
