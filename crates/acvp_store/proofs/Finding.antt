-- The words that the proofs of what queries find speak in.
pub use Rattle.acvp_store.proofs.Keyed.{keyed}
pub use Rattle.acvp_store.proofs.QueryLeaves.{read_as}
pub use Rattle.acvp_store.proofs.QueryRows.{met, met_as_found}
pub use Rattle.acvp_store.proofs.Readings.{AccountAt, AccountOutside, AccountRange, CapabilityAt, GreatestEpoch}
pub use Rattle.acvp_store.proofs.Readings.{is_query, NewestObject, NewestRequest, NewestSession, ObjectAt}
pub use Rattle.acvp_store.proofs.Readings.{ObjectOutside, ObjectPage, ObjectRange, OwnerAt, RequestAt, RequestOutside}
pub use Rattle.acvp_store.proofs.Readings.{RequestPage, RequestRange, ReviewerAt, ReviewerOutside, ReviewerRange}
pub use Rattle.acvp_store.proofs.Readings.{ReviewersOf, SessionAt, SessionOutside, SessionPage, SessionRange, SetAt}
pub use Rattle.acvp_store.proofs.Readings.{SetOutside, SetRange, SetsOf, StatusAt, VerdictsAt}
pub use Rattle.acvp_store.proofs.Told.{all_listed, first_kept, in_store, one_listed, told, unread}
