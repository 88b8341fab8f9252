pub mod FirstPulls
