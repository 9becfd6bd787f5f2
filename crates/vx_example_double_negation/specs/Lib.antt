pub mod DoubleNegation
