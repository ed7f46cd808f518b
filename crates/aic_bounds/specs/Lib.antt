-- The bound of each wait: its six terms, what is observed of them over a run, and what is promised.
pub mod Bounds
pub mod Figures
pub mod FiguresPromises
pub mod Following
pub mod Over
pub mod Promises
pub mod Worked
