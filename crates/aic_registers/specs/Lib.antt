-- The AT91 controller's registers: what each allows, what a read of it answers, and what a write of it or a line step does.
pub mod Effects
pub mod Handlers
pub mod Map
pub mod Registers
