-- The proof that the checks give each number exactly when the table says.
pub mod Promises
