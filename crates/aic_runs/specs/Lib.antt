-- Runs of the AT91 controller: what is counted, and what is promised.
pub mod Counted
pub mod Promises
pub mod Rivals
pub mod RivalsPromises
pub mod RivalsWorked
pub mod Runs
pub mod Tables
pub mod Turns
pub mod TurnsPromises
pub mod TurnsTables
pub mod TurnsWorked
pub mod Worked
