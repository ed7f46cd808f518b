-- The laws of the hosts and of the registers, and the proof of what is promised of them.
pub mod AccessLaws
pub mod BitsLaws
pub mod HostsPromises
pub mod LayoutPromises
pub mod MadeLaws
pub mod MapLaws
pub mod MapRegisterLaws
pub mod MapsPromises
pub mod Promises
pub mod ReplyLaws
pub mod ScanLaws
pub mod StepLaws
pub mod WrittenLaws
