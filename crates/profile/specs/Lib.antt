-- CR 1, "Keep the load profile": one record, the room for records in a lent buffer, reading a record, and what follows from these.
pub mod Records
pub mod Room
pub mod Reading
pub mod Laws
