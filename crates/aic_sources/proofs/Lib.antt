-- Laws and theorems about the AT91 controller's sources.
pub mod FastLaws
pub mod HandlerLaws
pub mod OrderLaws
pub mod PendingLaws
pub mod Promises
pub mod SearchLaws
pub mod SideLaws
