-- CoreInterrupt laid out in a room, and on a record that is lent.
pub mod Lent
pub mod LentPromises
pub mod Promises
pub mod Room
