pub mod FlagsBack
pub mod ReadBack
