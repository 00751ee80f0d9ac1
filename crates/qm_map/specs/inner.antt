pub mod DueMark
pub mod Steady
pub mod Taking
