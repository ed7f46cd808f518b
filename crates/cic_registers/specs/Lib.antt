-- Which hosts are asserted, registers of bits, what the CIC's registers answer, what a write does, and what is promised of them.
pub mod Access
pub mod Bits
pub mod Hosts
pub mod HostsPromises
pub mod LayoutPromises
pub mod Map
pub mod Maps
pub mod MapsPromises
pub mod Model
pub mod Promises
pub mod Registers
pub mod Scan
