-- The AT91 controller: what each register, each line step and each output answers.
pub mod Model
pub mod Promises
pub mod Tables
