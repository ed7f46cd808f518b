-- The nesting of an AIC as a drawing, and what is promised of it.
pub mod Bars
pub mod Drawing
pub mod Frame
pub mod Promises
pub mod Shapes
