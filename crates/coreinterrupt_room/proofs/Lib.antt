-- Laws of the room of a CoreInterrupt, what its steps answer, also on a record that is lent, and its promises.
pub mod LentPromises
pub mod Promises
pub mod RoomLaws
pub mod StepLaws
pub mod ValueLaws
