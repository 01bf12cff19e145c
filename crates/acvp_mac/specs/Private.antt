-- Words of a type's view and invariant: no public clause speaks in them.
pub mod DigestBytes
